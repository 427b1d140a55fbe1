use Rattle.inline_parser.proofs.Placed.{place_after, labels_after}
use Rattle.inline_parser.proofs.scan.Scanner.run.Goals as goal

pub returns-clause-placed : goal.returns-clause-placed
returns-clause-placed g c is_punctuation content p =
    let s = c.args.self.now in
    let after = c.cut_after-self.result.now in
    let a = c.cut_after-self.ensures.place in
    record {
      searched = p.searched;
      known = p.known;
      place = place_after content.text.now s.rest.now after p.place a;
      labels = c.in_ok-run.ensures.from after (labels_after s.rest.now after s.reading.labels.items a p.labels);
      sound = c.in_ok-run.ensures.sound;
    }
