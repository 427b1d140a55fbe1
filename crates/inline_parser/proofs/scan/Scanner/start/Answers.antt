use Rattle.std.proofs.Common.{◌≡◌, ◌≤◌, ◌∙◌, subst, ap, arith, length, drop}
use Rattle.inline_parser.proofs.Prelude.{IsUtf8, Shows, start_bytes, start_view, with_open_label}
use Rattle.std.proofs.lemmas.Str.{IsCharBoundary-from_drop}
use Rattle.inline_parser.proofs.Placed.{place_after, labels_after, whole_rest}
use Rattle.inline_parser.proofs.scan.Scanner.start.Goals as goal

pub text_before-requires : goal.text_before-requires
text_before-requires g c =
    let rest = c.args.self.now.rest.now in
    let size = c.size-size.result in
    let within : size ≤ length rest = omega (arith, c.size-size.ensures, c.requires.front.end.within) in
    IsCharBoundary-from_drop rest size within (subst (λ xs. IsUtf8 xs) c.cut_after-after.ensures.rest c.cut_after-after.utf8)

pub returns-clause-placed : goal.returns-clause-placed
returns-clause-placed g c is_punctuation content p =
    let s = c.args.self.now in
    let after = c.cut_after-after.result.now in
    let a = c.cut_after-after.ensures.place in
    record {
      searched = p.searched;
      known = p.known;
      place = place_after content.text.now s.rest.now after p.place a;
      labels = c.in_ok-start.ensures.from after (labels_after s.rest.now after s.reading.labels.items a p.labels) (whole_rest after);
      sound = c.in_ok-start.ensures.sound;
    }

pub returns-clause-read : goal.returns-clause-read
returns-clause-read g c leads at r h =
    let rest = c.args.self.now.rest.now in
    let there : c.cut_after-after.result.now ≡ drop (length (start_bytes (start_view c.args.start))) rest =
    c.cut_after-after.ensures.rest ∙ ap (λ n. drop n rest) c.size-size.ensures in
    subst (λ from. Shows leads at c.start.new.self (with_open_label c.args.start from r)) there (c.in_ok-start.ensures.read leads at r h)
