use Rattle.std.proofs.Common.{false, length, sym, ◌∙◌}
use Rattle.std.proofs.lemmas.Bool.{lt-leb}
use Rattle.text_bytes.proofs.Names.{none_longer}
use Rattle.text_bytes.proofs.bytes.is_short_one_of.Goals as goal

pub returns-else-text-longest : goal.returns-else-text-longest
returns-else-text-longest c =
    let longer = c.if-text-longest.false in
    lt-leb (length c.args.text.now) c.args.longest longer ∙ sym (none_longer (λ n. n.now) c.args.texts.now c.args.longest c.args.text.now c.requires longer)
