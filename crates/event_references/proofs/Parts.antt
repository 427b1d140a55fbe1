-- Events that tell nothing of the label of what they are in.
use Rattle.std.proofs.Common.{◌≡◌, ◌∙◌, ℕ, Bool, true, false, ◌||◌, List, Option, None, Some, refl, ap}
use Rattle.event_references.proofs.Prelude.{is_part, Media, media, Name, noted, only_if, option_or, same_name}
use Rattle.engine_events.specs.declared.event.Name.TheVariants as n

or_no : (b : Bool) → (b || false) ≡ b
or_no true = refl
or_no false = refl

no_more : (x : Option (List ℕ)) → option_or x None ≡ x
no_more None = refl
no_more (Some y) = refl

not_so : (A : Type 0) → true ≡ false → A
not_so A h = absurd (let f : true ≡ false = h in cc)

none_of : (r s t : Bool) (text : List ℕ) (m : Media) → (r || (s || t)) ≡ false
    → media (m.resource || r) (option_or m.reference (only_if s text)) (option_or m.text (only_if t text)) ≡ m
none_of true s t text m h = not_so _ h
none_of false true t text m h = not_so _ h
none_of false false true text m h = not_so _ h
none_of false false false text m h =
    ap (λ (z : Bool). media z (option_or m.reference None) (option_or m.text None)) (or_no m.resource)
    ∙ (ap (λ (z : Option (List ℕ)). media m.resource z (option_or m.text None)) (no_more m.reference)
    ∙ ap (λ (z : Option (List ℕ)). media m.resource m.reference z) (no_more m.text))

pub noted_none : (name : Name) (text : List ℕ) (m : Media) → is_part name ≡ false → noted name text m ≡ m
noted_none name text m h = none_of (same_name name n.Resource) (same_name name n.ReferenceString) (same_name name n.LabelText) text m h
