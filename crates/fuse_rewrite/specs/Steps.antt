-- Which names are fused and which are kept, and the steps of a plan: one for each name that is kept.
use Rattle.std.specs.Prelude.{ℕ, zero, suc, ◌+◌, Bool, true, false, not, ◌&&◌, ◌==◌, List, [], ◌∷◌, ◌++◌, Option, Some, None, slice_get, if◌then◌else◌}
use Rattle.std.specs.List.{list_any}
use Rattle.script_lang.specs.declared.kind.Kind.TheVariants as kind
use Rattle.script_lang.specs.declared.head.Head.{Head}
use Rattle.script_lang.specs.declared.head.Head.TheVariants as head
use Rattle.script_lang.specs.Syntax.{Binding, Skeleton, Statement, binds_let}
use Rattle.script_lang.specs.Tables.{same_kind}
use Rattle.fuse_rewrite.specs.Uses.{Use, by_pipe, Uses, uses_of, is_needed, all_uses}

-- skeletons whose list can be taken as it comes
abbrev pub makes_pipe : Head → Bool
makes_pipe head.Map = true
makes_pipe head.Filter = true
makes_pipe head.Rev = true
makes_pipe head.Zip = true
makes_pipe head.Iota = true
makes_pipe h = false

-- a name is fused exactly where it is a list that can be taken as it comes, and its one use takes it so
abbrev pub is_fused : Binding → Skeleton → List Use → Bool
is_fused b s (by_pipe ∷ []) = same_kind b.kind kind.List && makes_pipe s.head
is_fused b s us = false

-- every other needed name of a let line is kept
abbrev pub is_kept : Binding → Skeleton → List Use → Bool
is_kept b s us = is_needed us && not (is_fused b s us)

abbrev pub last_of : List ℕ → ℕ
last_of [] = 0
last_of (x ∷ []) = x
last_of (x ∷ y ∷ ys) = last_of (y ∷ ys)

-- the last argument of a fused line
abbrev pub argument_where_fused : Statement → List Use → Option ℕ
argument_where_fused (binds_let b s) us = if is_fused b s us then Some (last_of s.arguments) else None
argument_where_fused l us = None

abbrev pub fused_at : List Statement → Uses → ℕ → Option ℕ
fused_at lines us n = elim (slice_get lines n) [ None ↦ None | Some l ↦ argument_where_fused l (uses_of n us) ]

-- The fused lines that lead to the line of this number and it, nearest to the head first; none where it isn't fused. An
-- argument stands above its line, so there are fewer than the number of the line that takes them.
unfoldable pub chain_to : ℕ → List Statement → Uses → ℕ → List ℕ
chain_to zero lines us n = []
chain_to (suc room) lines us n = elim (fused_at lines us n) [ None ↦ [] | Some m ↦ chain_to room lines us m ++ n ∷ [] ]

-- a let line that is kept, and the fused lines between it and the head, nearest to the head first
pub record Kept : Type 0 where
  pub line : ℕ
  pub chain : List ℕ

abbrev pub step_of : List Statement → Uses → ℕ → Skeleton → Kept
step_of lines us n s = record { line = n; chain = chain_to n lines us (last_of s.arguments) }

-- the step of the line of this number, if it is kept
abbrev pub step_at : List Statement → Uses → ℕ → Statement → List Kept
step_at lines us n (binds_let b s) = if is_kept b s (uses_of n us) then step_of lines us n s ∷ [] else []
step_at lines us n l = []

-- the steps of these lines, the first of which has this number
unfoldable pub steps_from : List Statement → Uses → ℕ → List Statement → List Kept
steps_from lines us n [] = []
steps_from lines us n (l ∷ ls) = step_at lines us n l ++ steps_from lines us (n + 1) ls

-- the steps of a script, in its order
abbrev pub steps_of : List Statement → List Kept
steps_of lines = steps_from lines (all_uses lines) 0 lines

-- some step has this line
abbrev pub has_step : List Kept → ℕ → Bool
has_step steps n = list_any (λ s. s.line == n) steps
