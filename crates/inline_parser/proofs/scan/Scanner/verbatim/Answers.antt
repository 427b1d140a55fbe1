use Rattle.std.proofs.Common.{◌≡◌, ◌==◌, ℕ, List, false, map, subst, sym}
use Rattle.std.specs.List.{list_any}
use Rattle.inline_parser.proofs.Prelude.{encode, front_bare, front_same, IsAfter, leaf_items, read_tokens, Shows}
use Rattle.inline_rows.specs.View.{line_leaf}
use Rattle.inline_parser.proofs.Placed.{place_after, labels_after}
use Rattle.inline_parser.proofs.scan.Scanner.verbatim.Goals as goal

pub invariant_of-verbatim : goal.invariant_of-verbatim
invariant_of-verbatim g c = record {
  same =
      subst (λ (bytes : List ℕ). encode bytes ≡ bytes) (sym c.text_before-text.ensures)
      (front_same c.args.has_literals c.args.self.now.rest.now c.args.size c.requires.verbatim);
  bare = λ on.
      subst (λ (bytes : List ℕ). list_any (λ b. b == 64) bytes ≡ false) (sym c.text_before-text.ensures)
      (front_bare c.args.has_literals c.args.self.now.rest.now c.args.size c.requires.verbatim on);
}

pub returns-clause-placed : goal.returns-clause-placed
returns-clause-placed g c is_punctuation content p =
    let s = c.args.self.now in
    let after = c.rest_from-self.result.now in
    let a : IsAfter s.rest.now after = subst (IsAfter s.rest.now) (sym c.rest_from-self.ensures) c.requires.next in
    record {
      searched = p.searched;
      known = p.known;
      place = place_after content.text.now s.rest.now after p.place a;
      labels = c.in_ok-verbatim.ensures.from after (labels_after s.rest.now after s.reading.labels.items a p.labels);
      sound = c.in_ok-verbatim.ensures.sound;
    }

pub returns-clause-read : goal.returns-clause-read
returns-clause-read g c leads at r h =
    subst (λ text. Shows leads at c.verbatim.new.self (read_tokens (leaf_items (map line_leaf text)) r)) c.text_before-text.ensures
    (c.in_ok-verbatim.ensures.read leads at r h)
