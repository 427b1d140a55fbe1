use Rattle.std.proofs.Common.{◌≡◌, true, ◌-◌, ◌++◌, ◌∷◌, [], None, Some, arith, drop, length, take, subst, sym, ap, ◌∙◌, refl}
use Rattle.parse_links.proofs.Prelude.{after_reference, AreBytes, bytes_after, bytes_drop, content_codes, cut_last, HasCodes, is_collapsed, label_at}
use Rattle.parse_links.proofs.Prelude.{label_whole, part_of, same_codes}
use Rattle.parse_links.proofs.Marks.{label_filled, quoted_bytes, quoted_cut}
use Rattle.parse_links.proofs.Tails.{collapsed_bytes, collapsed_left, string_filled}
use Rattle.parse_links.proofs.reference.reference_front.Goals as goal

pub returns-in-Some : goal.returns-in-Some
returns-in-Some c =
    let xs = c.args.text.now in
    let cs = content_codes xs in
    let p = part_of c.in-Some.part in
    let rest = c.in-Some.part.rest.now in
    let bytes : AreBytes xs = λ k. omega (arith, c.type_inv.text k) in
    let same : c.as_bytes.result.now ≡ xs = c.as_bytes.ensures.value in
    let read : label_at cs ≡ Some p = ap (λ ys. label_at (content_codes ys)) (sym same) ∙ sym c.in-Some.ensures.read in
    let q = quoted_bytes 91 93 p.text p.rest xs (label_whole cs p read) refl refl in
    let cut = quoted_cut 91 93 q.string q.after xs q.parts (omega arith) in
    let place : rest ≡ drop (length c.as_bytes.result.now - length rest) xs =
    c.in-Some.ensures.place.place ∙ ap (drop (length c.as_bytes.result.now - length rest)) same in
    let rest_bytes : AreBytes rest = subst AreBytes (sym place) (bytes_drop (length c.as_bytes.result.now - length rest) xs bytes) in
    let after : q.after ≡ rest = same_codes q.after rest (bytes_after (91 ∷ (q.string ++ 93 ∷ [])) q.after xs cut.0 bytes) rest_bytes q.rest_is in
    let front : c.without_last.result.now ≡ 91 ∷ (q.string ++ 93 ∷ []) =
    c.without_last.ensures (91 ∷ (q.string ++ 93 ∷ [])) q.after cut.0 (ap length (sym after)) (cut.1 c.utf8.text) in
    record {
      string = q.string;
      after = q.after;
      parts = cut.0 ∙ ap (λ f. f ++ q.after) (sym front);
      form = front;
      codes = subst (λ l. HasCodes l q.string) (sym read) (q.text_is, string_filled q.string p.text q.text_is (label_filled cs p read));
      left = q.rest_is ∙ ap (λ l. after_reference l cs) (sym read);
    }

pub returns-then-is_collapsed : goal.returns-then-is_collapsed
returns-then-is_collapsed c =
    let xs = c.args.text.now in
    let none : label_at (content_codes xs) ≡ None =
    ap (λ ys. label_at (content_codes ys)) (sym c.as_bytes.ensures.value) ∙ sym c.in-None.ensures.read in
    let is : is_collapsed xs ≡ true =
    ap is_collapsed (sym c.as_bytes-in-None.ensures.value) ∙ sym c.is_collapsed.ensures ∙ c.if-is_collapsed.true in
    let whole = collapsed_bytes xs is in
    let front : c.up_to.result.now ≡ 91 ∷ 93 ∷ [] =
    c.up_to.ensures.front (cut_last xs (91 ∷ []) (drop 2 xs) 93 2 whole (omega arith) refl c.utf8.text) ∙ ap (take 2) whole in
    record {
      string = [];
      after = drop 2 xs;
      parts = whole ∙ ap (λ f. f ++ drop 2 xs) (sym front);
      form = front;
      codes = subst (λ l. HasCodes l []) (sym none) refl;
      left = collapsed_left xs is none;
    }
