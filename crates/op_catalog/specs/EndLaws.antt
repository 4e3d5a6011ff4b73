-- The operators that answer the first or the last element obey the laws.
use Rattle.std.proofs.Common.{◌≡◌, List, refl}
use Rattle.op_laws.specs.declared.width.Width.{Width}
use Rattle.op_laws.specs.Laws.{LiftLaws, CombineLaws}
use Rattle.op_catalog.specs.Ends.{IsOfType}

pub end_lift_laws : (own : List Width) → LiftLaws (λ ty. ty ≡ own) (λ ty. ty) (λ e. e) (λ c. c) (IsOfType own)
end_lift_laws own = record {
  grows = λ c m n le f. f;
  lifted_fits = λ ty e taken admitted. rw taken at admitted;
  finished_admitted = λ ty c n taken few f. rw taken f;
}

pub first_combine_laws : (own : List Width) → CombineLaws (λ a b. a) (IsOfType own)
first_combine_laws own = record {
  combined_fits = λ a m b n few fa fb. fa;
  associative = λ a l b m c n few fa fb fc. refl;
}

pub last_combine_laws : (own : List Width) → CombineLaws (λ a b. b) (IsOfType own)
last_combine_laws own = record {
  combined_fits = λ a m b n few fa fb. fb;
  associative = λ a l b m c n few fa fb fc. refl;
}
