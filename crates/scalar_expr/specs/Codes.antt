-- Functions are told apart by the nodes of their scalars: words on the layout, which no public clause cites.
use Rattle.std.specs.Prelude.{◌≡◌, ℕ, ℤ, pos, Bool, true, false, List, [], ◌∷◌, ◌++◌, map, ◌⊎◌, refl}
use Rattle.std.specs.Coded.{Coded, code_by, coded×, coded⊎, coded_ℕ, coded_ℤ, coded_bool, coded_list}
use Rattle.std.proofs.Common.{inl, inr, sym, ◌∙◌, ap, append_assoc}
use Rattle.std.proofs.lemmas.List.{append-nil}
use Rattle.op_laws.specs.declared.width.Width.{Width}
use Rattle.op_laws.specs.contracts.width.Width as widths
use Rattle.scalar_expr.specs.declared.pair.Pair.{Pair}
use Rattle.scalar_expr.specs.contracts.pair.Pair as pairs
use Rattle.scalar_expr.specs.Expr.{Expr, lit, part, two, cond, wrap}
use Rattle.scalar_expr.specs.Functions.{Function}

-- a literal, a component, an operator on two parts, or a wrap (true) and a choice (false)
abbrev pub Mark : Type 0
Mark = ℤ ⊎ (ℕ ⊎ (Pair ⊎ Bool))

abbrev pub marks : Expr → List Mark
marks (lit n) = inl n ∷ []
marks (part i) = inr (inl i) ∷ []
marks (two op a b) = marks a ++ (marks b ++ inr (inr (inl op)) ∷ [])
marks (cond c a b) = marks c ++ (marks a ++ (marks b ++ inr (inr (inr false)) ∷ []))
marks (wrap a) = marks a ++ inr (inr (inr true)) ∷ []

-- back from the marks, on a stack whose top comes first
abbrev pub one_more : Mark → List Expr → List Expr
one_more (inl n) st = lit n ∷ st
one_more (inr (inl i)) st = part i ∷ st
one_more (inr (inr (inl op))) (b ∷ a ∷ st) = two op a b ∷ st
one_more (inr (inr (inr true))) (a ∷ st) = wrap a ∷ st
one_more (inr (inr (inr false))) (b ∷ a ∷ c ∷ st) = cond c a b ∷ st
one_more m st = st

abbrev pub unmarked : List Mark → List Expr → List Expr
unmarked [] st = st
unmarked (m ∷ ms) st = unmarked ms (one_more m st)

abbrev pub top_of : List Expr → Expr
top_of [] = lit (pos 0)
top_of (s ∷ st) = s

abbrev pub expr_from : List Mark → Expr
expr_from ms = top_of (unmarked ms [])

unmarked-marks : (s : Expr) (ms : List Mark) (st : List Expr) → unmarked (marks s ++ ms) st ≡ unmarked ms (s ∷ st)
unmarked-marks (lit n) ms st = refl
unmarked-marks (part i) ms st = refl
unmarked-marks (two op a b) ms st =
    let last : List Mark = inr (inr (inl op)) ∷ [] in
    ap (λ x. unmarked x st) (append_assoc (marks a) (marks b ++ last) ms ∙ ap (λ x. marks a ++ x) (append_assoc (marks b) last ms))
    ∙ unmarked-marks a (marks b ++ (last ++ ms)) st ∙ unmarked-marks b (last ++ ms) (a ∷ st)
unmarked-marks (cond c a b) ms st =
    let last : List Mark = inr (inr (inr false)) ∷ [] in
    ap (λ x. unmarked x st) (append_assoc (marks c) (marks a ++ (marks b ++ last)) ms
    ∙ ap (λ x. marks c ++ x) (append_assoc (marks a) (marks b ++ last) ms ∙ ap (λ x. marks a ++ x) (append_assoc (marks b) last ms)))
    ∙ unmarked-marks c (marks a ++ (marks b ++ (last ++ ms))) st ∙ unmarked-marks a (marks b ++ (last ++ ms)) (c ∷ st) ∙ unmarked-marks b (last ++ ms) (a ∷ c ∷ st)
unmarked-marks (wrap a) ms st =
    let last : List Mark = inr (inr (inr true)) ∷ [] in
    ap (λ x. unmarked x st) (append_assoc (marks a) last ms) ∙ unmarked-marks a (last ++ ms) st

expr_same : (s : Expr) → expr_from (marks s) ≡ s
expr_same s = ap top_of (ap (λ x. unmarked x []) (sym (append-nil (marks s))) ∙ unmarked-marks s [] [])

exprs_same : (ss : List Expr) → map expr_from (map marks ss) ≡ ss
exprs_same [] = refl
exprs_same (s ∷ ss) = ap (λ x. x ∷ map expr_from (map marks ss)) (expr_same s) ∙ ap (λ xs. s ∷ xs) (exprs_same ss)

pub function_same : (f : Function) → (let g : Function = record { scalars = map expr_from (map marks f.scalars); takes = f.takes; gives = f.gives } in g) ≡ f
function_same f = let g : List Expr → Function = λ ss. record { scalars = ss; takes = f.takes; gives = f.gives } in ap g (exprs_same f.scalars)

abbrev pub function_code : Coded Function
function_code =
    code_by (List (List Mark) × (List Width × List Width))
    (coded× (coded_list (coded_list (coded⊎ coded_ℤ (coded⊎ coded_ℕ (coded⊎ pairs.the_row.coded coded_bool))))) (coded× (coded_list widths.the_row.coded) (coded_list widths.the_row.coded)))
    (λ f. (map marks f.scalars, (f.takes, f.gives)))
    (λ c. record { scalars = map expr_from c.0; takes = c.1.0; gives = c.1.1 })
    function_same
