use Rattle.std.proofs.Common.{◌≡◌, true, ◌&&◌, ◌==◌, sym, ap, ◌∙◌}
use Rattle.block_parser.proofs.Prelude.{container_views, eq-eqb, has_text, spine_at}
use Rattle.block_parser.proofs.Steps as steps
use Rattle.std.proofs.Common.{vec_len}
use Rattle.block_parser.proofs.parser.Parser.interrupts.Goals as goal

pub returns-then-depth-len : goal.returns-then-depth-len
returns-then-depth-len g c = λ around kids away deep h.
    let p = c.args.self.now in
    let last : (c.args.depth == vec_len p.open) ≡ true = eq-eqb c.args.depth (vec_len p.open) (c.if-depth-len.true ∙ c.len.ensures) in
    c.has_text.ensures (container_views p.open.items) (spine_at around kids away) h ∙ steps.has_text_at around kids away ∙ sym (ap (λ x. x && has_text away) last)
