use Rattle.std.proofs.Common.{◌≡◌, ◌∙◌, ℕ, Bool, true, false, not, zero, suc, ◌==◌, List, [], ◌∷◌, length, drop, Option, None, if◌then◌else◌, refl, sym, ap, arith}
use Rattle.std.proofs.lemmas.Bool.{ne_eqb}
use Rattle.definition_text.specs.Ascii.{carriage_return, line_feed}
use Rattle.definition_text.specs.Columns.{Code}
use Rattle.definition_text.specs.Content.{after_return_code, content_codes, return_and_feed}
use Rattle.definition_inline.specs.Definition.{Definition, definition_at}
use Rattle.state_left.specs.Left.{cut_after, cut_most, is_empty}
use Rattle.state_left.proofs.paragraph.is_left.Goals as goal

-- where no definition is, nothing is cut
cut_none : (most : ℕ) (content : List Code) → definition_at content ≡ None → cut_most most content ≡ content
cut_none zero content none = refl
cut_none (suc most) content none = ap (λ (o : Option Definition). cut_after o content (cut_most most)) none

either : (t : Bool) (a b : List Code) → is_empty a ≡ false → is_empty b ≡ false → is_empty (if t then a else b) ≡ false
either true a b h k = h
either false a b h k = k

after_return : (bs : List ℕ) (codes : List Code) → is_empty (after_return_code bs codes) ≡ false
after_return [] codes = refl
after_return (b ∷ bs) codes = either (b == line_feed) (return_and_feed ∷ drop 1 codes) (carriage_return ∷ codes) refl refl

-- bytes have a code, but where there are none
same_empty : (bs : List ℕ) → (length bs == 0) ≡ is_empty (content_codes bs)
same_empty [] = refl
same_empty (b ∷ bs) =
    let codes = content_codes bs in
    ne_eqb (length (b ∷ bs)) 0 (omega arith) ∙ sym (either (b == carriage_return) (after_return_code bs codes) (b ∷ codes) (after_return bs codes) refl)

pub returns : goal.returns
returns c =
    let k = c.loop-found.invariant in
    let none = cut_none k.0 _ (sym c.in_default.ensures.read) in
    ap not (c.is_empty.ensures ∙ same_empty c.loop-found.rest.now ∙ ap is_empty (sym none ∙ k.2))
