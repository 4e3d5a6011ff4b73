-- Codes that are compiled step by step.
use Rattle.std.proofs.Common.{◌≡◌, ℕ, ◌+◌, ◌<◌, ◌≤◌, Bool, false, ℤ, pos, List, [], ◌∷◌, ◌++◌, length, take, get_or, length-append, append_assoc, refl, ap, sym, subst, ◌∙◌, arith}
use Rattle.std.proofs.lemmas.List.{append-nil, length-take-le, get_or_append_left, get_or_push, take_at}
use Rattle.op_laws.specs.declared.width.Width.{Width}
use Rattle.scalar_expr.specs.declared.step.Operand.{Operand}
use Rattle.scalar_expr.specs.declared.step.Operand.TheVariants.{Part, Const, Place}
use Rattle.scalar_expr.specs.declared.step.Calc.{Calc}
use Rattle.scalar_expr.specs.declared.step.Calc.TheVariants as calc
use Rattle.scalar_expr.specs.declared.step.Step.{Step}
use Rattle.scalar_expr.specs.declared.step.Step.TheVariants.{Two, Cond}
use Rattle.scalar_expr.specs.Expr.{Expr, lit, wrap}
use Rattle.scalar_expr.specs.Expr as expr
use Rattle.scalar_expr.specs.Columns.{columns_held}
use Rattle.scalar_expr.specs.Steps.{Machine, operand_in, put, step_in, run_in, calc_expr, exprs, built, out_of, height_after, IsFound, IsSafe, AreSafe, IsExactCalc, IsExact, AreExact, IsBegun, held, IsEmitted, IsRooted}

-- ---- one more step

pub run_in-append : {X : Type 0} (m : Machine X) (xs ys : List Step) (st : List X) → run_in m (xs ++ ys) st ≡ run_in m ys (run_in m xs st)
run_in-append m [] ys st = refl
run_in-append m (x ∷ xs) ys st = run_in-append m xs ys (step_in m x st)

height_after-append : (xs ys : List Step) (h : ℕ) → height_after (xs ++ ys) h ≡ height_after ys (height_after xs h)
height_after-append [] ys h = refl
height_after-append (x ∷ xs) ys h = height_after-append xs ys (out_of x + 1)

AreSafe-append : (arity room : ℕ) (xs ys : List Step) (h : ℕ) → AreSafe arity room xs h → AreSafe arity room ys (height_after xs h) → AreSafe arity room (xs ++ ys) h
AreSafe-append arity room [] ys h s t = t
AreSafe-append arity room (x ∷ xs) ys h s t = (s.0, AreSafe-append arity room xs ys (out_of x + 1) s.1 t)

AreExact-append : (ty : List Width) (narrow : Bool) (xs ys : List Step) (st : List Expr) → AreExact ty narrow xs st → AreExact ty narrow ys (built xs st) → AreExact ty narrow (xs ++ ys) st
AreExact-append ty narrow [] ys st s t = t
AreExact-append ty narrow (x ∷ xs) ys st s t = (s.0, AreExact-append ty narrow xs ys (step_in exprs x st) s.1 t)

length-put : {X : Type 0} (k : ℕ) (x : X) (st : List X) → k ≤ length st → length (put k x st) ≡ k + 1
length-put k x st h = let l = length-take-le k st h in length-append (take k st) (x ∷ []) ∙ ap (λ n. n + 1) l

pub length-step_in : {X : Type 0} (m : Machine X) (i : Step) (st : List X) → out_of i ≤ length st → length (step_in m i st) ≡ out_of i + 1
length-step_in m (Two op a b out) st h = length-put out _ st h
length-step_in m (Cond c a b out) st h = length-put out _ st h

pub record IsMore (ty : List Width) (room : ℕ) (narrow : Bool) (i : Step) (before after : List Step) : Type 0 where
  pub begun : IsBegun ty room narrow (out_of i + 1) after
  pub stack : built after [] ≡ step_in exprs i (built before [])

module _ (ty : List Width) (room : ℕ) (narrow : Bool) where
  begun_more : (q : ℕ) (before after : List Step) (i : Step) → IsBegun ty room narrow q before → IsSafe (length ty) room q i → out_of i ≤ q → IsExact ty narrow i (built before [])
      → after ≡ before ++ i ∷ [] → IsMore ty room narrow i before after
  begun_more q before after i b safe low exact is =
      let stack : built after [] ≡ step_in exprs i (built before []) = ap (λ c. built c []) is ∙ run_in-append exprs before (i ∷ []) [] in
      let safe_at : IsSafe (length ty) room (height_after before 0) i = subst (λ h. IsSafe (length ty) room h i) (sym b.height) safe in
      record {
        begun = record {
          height = ap (λ c. height_after c 0) is ∙ height_after-append before (i ∷ []) 0;
          long = ap length stack ∙ length-step_in exprs i (built before []) (omega (arith, b.long));
          safe = subst (λ c. AreSafe (length ty) room c 0) (sym is) (AreSafe-append (length ty) room before (i ∷ []) 0 b.safe (safe_at, tt));
          exact = subst (λ c. AreExact ty narrow c []) (sym is) (AreExact-append ty narrow before (i ∷ []) [] b.exact (exact, tt));
        };
        stack = stack;
      }

-- ---- operands

-- an operand that is found is not changed by what is put above
operand_below : (st more : List Expr) (arity p : ℕ) (o : Operand) → IsFound arity p (length st) o → operand_in exprs (st ++ more) o ≡ operand_in exprs st o
operand_below st more arity p (Part i) f = refl
operand_below st more arity p (Const n) f = refl
operand_below st more arity p (Place k) f = get_or_append_left st more (lit (pos 0)) k f.1

found_higher : (arity p h g : ℕ) (o : Operand) → h ≤ g → IsFound arity p h o → IsFound arity p g o
found_higher arity p h g (Part i) le f = f
found_higher arity p h g (Const n) le f = tt
found_higher arity p h g (Place k) le f = (f.0, omega (arith, f.1))

found_lower : (arity p q h : ℕ) (o : Operand) → p ≤ q → IsFound arity q h o → IsFound arity p h o
found_lower arity p q h (Part i) le f = f
found_lower arity p q h (Const n) le f = tt
found_lower arity p q h (Place k) le f = (omega (arith, f.0), f.1)

module _ (ty : List Width) (room : ℕ) (narrow : Bool) where
  -- a literal and a component have no steps
  pub atom_emitted : (p : ℕ) (code : List Step) (s : Expr) (o : Operand) → IsBegun ty room narrow p code → held o s ≡ [] → operand_in exprs (built code []) o ≡ s → IsFound (length ty) p p o
      → IsEmitted ty room narrow p code code s o
  atom_emitted p code s o b none gives found =
      let same : p ≡ p + length (held o s) = omega (arith, ap length none) in
      record {
        begun = subst (λ q. IsBegun ty room narrow q code) same b;
        stack = sym (append-nil (built code [])) ∙ ap (λ r. built code [] ++ r) (sym none);
        gives = gives;
        found = subst (λ q. IsFound (length ty) p q o) same found;
        few = omega (arith, ap length none);
      }

  -- what is found of an operand after another one
  found_first : (p : ℕ) (c1 c2 : List Step) (a b : Expr) (x y : Operand) → length (built c1 []) ≡ p + length (held x a) → IsFound (length ty) p (p + length (held x a)) x → operand_in exprs (built c1 []) x ≡ a
      → built c2 [] ≡ built c1 [] ++ held y b → operand_in exprs (built c2 []) x ≡ a
  found_first p c1 c2 a b x y long found gives stack =
      ap (λ st. operand_in exprs st x) stack ∙ operand_below (built c1 []) (held y b) (length ty) p x (subst (λ h. IsFound (length ty) p h x) (sym long) found) ∙ gives

  -- a node after its two parts
  pub two_rooted : (p : ℕ) (c0 c1 c2 c3 : List Step) (a b : Expr) (op : Calc) (x y : Operand) → IsBegun ty room narrow p c0
      → IsEmitted ty room narrow p c0 c1 a x → IsEmitted ty room narrow (p + length (held x a)) c1 c2 b y → c3 ≡ c2 ++ Two op x y p ∷ []
      → p < room → IsExactCalc ty narrow op a b
      → IsRooted ty room narrow p c0 c3 (calc_expr op a b)
  two_rooted p c0 c1 c2 c3 a b op x y begun ea eb is within exact =
      let q = p + length (held x a) + length (held y b) in
      let is_a : operand_in exprs (built c2 []) x ≡ a = found_first p c1 c2 a b x y ea.begun.long ea.found ea.gives eb.stack in
      let found_a : IsFound (length ty) p q x = found_higher (length ty) p _ q x (omega arith) ea.found in
      let found_b : IsFound (length ty) p q y = found_lower (length ty) p _ q y (omega arith) eb.found in
      let exact_at : IsExactCalc ty narrow op (operand_in exprs (built c2 []) x) (operand_in exprs (built c2 []) y) =
      subst (λ u. IsExactCalc ty narrow op u (operand_in exprs (built c2 []) y)) (sym is_a) (subst (λ u. IsExactCalc ty narrow op a u) (sym eb.gives) exact) in
      let more = begun_more ty room narrow q c2 c3 (Two op x y p) eb.begun (within, omega arith, found_a, found_b) (omega arith) exact_at is in
      let front : take p (built c2 []) ≡ built c0 [] =
      ap (take p) (eb.stack ∙ ap (λ r. r ++ held y b) ea.stack ∙ append_assoc (built c0 []) (held x a) (held y b)) ∙ take_at (built c0 []) (held x a ++ held y b) p begun.long in
      let stack : built c3 [] ≡ built c0 [] ++ calc_expr op a b ∷ [] =
      more.stack ∙ ap (λ r. r ++ calc_expr op (operand_in exprs (built c2 []) x) (operand_in exprs (built c2 []) y) ∷ []) front
      ∙ ap (λ u. built c0 [] ++ calc_expr op u (operand_in exprs (built c2 []) y) ∷ []) is_a ∙ ap (λ u. built c0 [] ++ calc_expr op a u ∷ []) eb.gives in
      record { begun = more.begun; stack = stack }

  -- a value at the top of the stack
  rooted_emitted : (p : ℕ) (c0 c3 : List Step) (s : Expr) → length (built c0 []) ≡ p → IsRooted ty room narrow p c0 c3 s → columns_held s ≡ 1 → IsEmitted ty room narrow p c0 c3 s (Place p)
  rooted_emitted p c0 c3 s long r node = record {
    begun = r.begun;
    stack = r.stack;
    gives = ap (λ st. get_or st p (lit (pos 0))) r.stack ∙ get_or_push (built c0 []) s (lit (pos 0)) p long;
    found = (omega arith, omega arith);
    few = omega arith;
  }

  pub two_emitted : (p : ℕ) (c0 c1 c2 c3 : List Step) (a b : Expr) (op : Calc) (x y : Operand) → IsBegun ty room narrow p c0
      → IsEmitted ty room narrow p c0 c1 a x → IsEmitted ty room narrow (p + length (held x a)) c1 c2 b y → c3 ≡ c2 ++ Two op x y p ∷ []
      → p < room → IsExactCalc ty narrow op a b → columns_held (calc_expr op a b) ≡ 1
      → IsEmitted ty room narrow p c0 c3 (calc_expr op a b) (Place p)
  two_emitted p c0 c1 c2 c3 a b op x y begun ea eb is within exact node =
      rooted_emitted p c0 c3 (calc_expr op a b) begun.long (two_rooted p c0 c1 c2 c3 a b op x y begun ea eb is within exact) node

  -- the same, where the second part is a literal that counts for nothing
  pub one_rooted : (p : ℕ) (c0 c1 c3 : List Step) (a : Expr) (op : Calc) (x : Operand) → IsBegun ty room narrow p c0
      → IsEmitted ty room narrow p c0 c1 a x → c3 ≡ c1 ++ Two op x (Const (pos 0)) p ∷ [] → p < room → IsExactCalc ty narrow op a (lit (pos 0))
      → IsRooted ty room narrow p c0 c3 (calc_expr op a (lit (pos 0)))
  one_rooted p c0 c1 c3 a op x begun ea is within exact =
      two_rooted p c0 c1 c1 c3 a (lit (pos 0)) op x (Const (pos 0)) begun ea (atom_emitted (p + length (held x a)) c1 (lit (pos 0)) (Const (pos 0)) ea.begun refl refl tt) is within exact

  pub one_emitted : (p : ℕ) (c0 c1 c3 : List Step) (a : Expr) (op : Calc) (x : Operand) → IsBegun ty room narrow p c0
      → IsEmitted ty room narrow p c0 c1 a x → c3 ≡ c1 ++ Two op x (Const (pos 0)) p ∷ [] → p < room → IsExactCalc ty narrow op a (lit (pos 0))
      → columns_held (calc_expr op a (lit (pos 0))) ≡ 1 → IsEmitted ty room narrow p c0 c3 (calc_expr op a (lit (pos 0))) (Place p)
  one_emitted p c0 c1 c3 a op x begun ea is within exact node =
      rooted_emitted p c0 c3 (calc_expr op a (lit (pos 0))) begun.long (one_rooted p c0 c1 c3 a op x begun ea is within exact) node

  -- a choice after its three parts
  pub three_emitted : (p : ℕ) (c0 c1 c2 c3 c4 : List Step) (c a b : Expr) (z x y : Operand) → IsBegun ty room narrow p c0
      → IsEmitted ty room narrow p c0 c1 c z → IsEmitted ty room narrow (p + length (held z c)) c1 c2 a x
      → IsEmitted ty room narrow (p + length (held z c) + length (held x a)) c2 c3 b y → c4 ≡ c3 ++ Cond z x y p ∷ [] → p < room
      → IsEmitted ty room narrow p c0 c4 (expr.cond c a b) (Place p)
  three_emitted p c0 c1 c2 c3 c4 c a b z x y begun ec ea eb is within =
      let q = p + length (held z c) + length (held x a) + length (held y b) in
      let after_c : IsFound (length ty) p (p + length (held z c) + length (held x a)) z = found_higher (length ty) p _ _ z (omega arith) ec.found in
      let is_c2 : operand_in exprs (built c2 []) z ≡ c = found_first p c1 c2 c a z x ec.begun.long ec.found ec.gives ea.stack in
      let is_c : operand_in exprs (built c3 []) z ≡ c =
      ap (λ st. operand_in exprs st z) eb.stack
      ∙ operand_below (built c2 []) (held y b) (length ty) p z (subst (λ h. IsFound (length ty) p h z) (sym ea.begun.long) after_c) ∙ is_c2 in
      let is_a : operand_in exprs (built c3 []) x ≡ a = found_first (p + length (held z c)) c2 c3 a b x y ea.begun.long ea.found ea.gives eb.stack in
      let found_c : IsFound (length ty) p q z = found_higher (length ty) p _ q z (omega arith) ec.found in
      let found_a : IsFound (length ty) p q x = found_lower (length ty) p _ q x (omega arith) (found_higher (length ty) _ _ q x (omega arith) ea.found) in
      let found_b : IsFound (length ty) p q y = found_lower (length ty) p _ q y (omega arith) eb.found in
      let more = begun_more ty room narrow q c3 c4 (Cond z x y p) eb.begun (within, omega arith, found_c, found_a, found_b) (omega arith) tt is in
      let front : take p (built c3 []) ≡ built c0 [] =
      ap (take p) (eb.stack ∙ ap (λ r. r ++ held y b) (ea.stack ∙ ap (λ r. r ++ held x a) ec.stack)
      ∙ append_assoc (built c0 [] ++ held z c) (held x a) (held y b) ∙ append_assoc (built c0 []) (held z c) (held x a ++ held y b))
      ∙ take_at (built c0 []) (held z c ++ (held x a ++ held y b)) p begun.long in
      let stack : built c4 [] ≡ built c0 [] ++ expr.cond c a b ∷ [] =
      more.stack ∙ ap (λ r. r ++ expr.cond (operand_in exprs (built c3 []) z) (operand_in exprs (built c3 []) x) (operand_in exprs (built c3 []) y) ∷ []) front
      ∙ ap (λ u. built c0 [] ++ expr.cond u (operand_in exprs (built c3 []) x) (operand_in exprs (built c3 []) y) ∷ []) is_c
      ∙ ap (λ u. built c0 [] ++ expr.cond c u (operand_in exprs (built c3 []) y) ∷ []) is_a ∙ ap (λ u. built c0 [] ++ expr.cond c a u ∷ []) eb.gives in
      rooted_emitted p c0 c4 (expr.cond c a b) begun.long (record { begun = more.begun; stack = stack }) refl
