use Rattle.inline_parser.proofs.Placed.{place_after, labels_after}
use Rattle.inline_parser.proofs.scan.Scanner.leaf.Goals as goal

pub returns-clause-placed : goal.returns-clause-placed
returns-clause-placed g c is_punctuation content p =
    let s = c.args.self.now in
    let after = c.args.leaf.after.now in
    record {
      searched = p.searched;
      known = p.known;
      place = place_after content.text.now s.rest.now after p.place c.requires.next;
      labels = c.in_ok-leaf.ensures.from after (labels_after s.rest.now after s.reading.labels.items c.requires.next p.labels);
      sound = c.in_ok-leaf.ensures.sound;
    }
