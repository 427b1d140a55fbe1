use Rattle.std.proofs.Common.{subst, sym}
use Rattle.inline_parser.proofs.Prelude.{IsAfter, read_tokens, Shows, text_items}
use Rattle.inline_parser.proofs.Placed.{place_after, labels_after}
use Rattle.inline_parser.proofs.scan.Scanner.text.Goals as goal

pub returns-clause-placed : goal.returns-clause-placed
returns-clause-placed g c is_punctuation content p =
    let s = c.args.self.now in
    let after = c.rest_from-self.result.now in
    let a : IsAfter s.rest.now after = subst (IsAfter s.rest.now) (sym c.rest_from-self.ensures) c.requires.next in
    record {
      searched = p.searched;
      known = p.known;
      place = place_after content.text.now s.rest.now after p.place a;
      labels = c.in_ok-text.ensures.from after (labels_after s.rest.now after s.reading.labels.items a p.labels);
      sound = c.in_ok-text.ensures.sound;
    }

pub returns-clause-read : goal.returns-clause-read
returns-clause-read g c leads at r h =
    subst (λ text. Shows leads at c.text.new.self (read_tokens (text_items text) r)) c.text_before.ensures (c.in_ok-text.ensures.read leads at r h)
