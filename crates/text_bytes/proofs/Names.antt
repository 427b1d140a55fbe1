-- Names that are the same but for their case have as many bytes.
use Rattle.std.proofs.Common.{◌≡◌, ℕ, ◌<◌, true, false, List, [], ◌∷◌, refl, sym, ap, ◌∙◌, length, arith, inl, inr}
use Rattle.std.specs.Prelude.{nat_le}
use Rattle.std.specs.List.{list_all, list_any}
use Rattle.std.specs.Char.{to_ascii_lowercase}
use Rattle.std.proofs.lemmas.Bool.{cases_Bool, and_parts, leb-true, or_from}
use Rattle.std.proofs.lemmas.List.{length-map}
use Rattle.std.proofs.lemmas.Slice.Eq.{bytes_eq-Decides}
use Rattle.definition_text.specs.Bytes.{lower, same_caselessly}

as_long : (one other : List ℕ) → same_caselessly one other ≡ true → length one ≡ length other
as_long one other h =
    sym (length-map one to_ascii_lowercase) ∙ ap length ((bytes_eq-Decides (lower one) (lower other)).0 h) ∙ length-map other to_ascii_lowercase

other_than : (one other : List ℕ) → length one < length other → same_caselessly one other ≡ false
other_than one other lt = elim (cases_Bool (same_caselessly one other)) [
  | inl same ↦ let size = as_long one other same in absurd (omega arith)
  | inr no_one ↦ no_one
]

-- a text that is longer than these is none of them
pub none_longer : {A : Type 0} (bytes : A → List ℕ) (texts : List A) (longest : ℕ) (text : List ℕ)
    → list_all (λ n. nat_le (length (bytes n)) longest) texts ≡ true → longest < length text → list_any (λ n. same_caselessly (bytes n) text) texts ≡ false
none_longer bytes [] longest text all lt = refl
none_longer bytes (n ∷ ns) longest text all lt =
    let parts = and_parts (nat_le (length (bytes n)) longest) (list_all (λ k. nat_le (length (bytes k)) longest) ns) all in
    let short = leb-true (length (bytes n)) longest parts.0 in
    or_from (same_caselessly (bytes n) text) (list_any (λ k. same_caselessly (bytes k) text) ns) (other_than (bytes n) text (omega arith))
    (none_longer bytes ns longest text parts.1 lt)
