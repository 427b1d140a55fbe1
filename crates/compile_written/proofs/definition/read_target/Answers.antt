use Rattle.std.proofs.Common.{◌++◌, ◌∙◌, ap, ap₂, ℕ, List, Some, string_bytes}
use Rattle.definition_inline.specs.Inline.{link_texts}
use Rattle.compile_written.proofs.Prelude.{destination_written, title_written}
use Rattle.compile_written.proofs.WrittenTargets.{destination_codes, title_codes}
use Rattle.compile_written.proofs.definition.read_target.Goals as goal

pub returns : goal.returns
returns g c =
    let names = g.T.Tables.reference_of c.args.tables.now in
    let bytes = c.args.bytes.now in
    let events = c.args.events.now in
    ap₂ (λ (x y : List ℕ). link_texts x (Some y))
    (destination_codes names bytes events (string_bytes c.push_destination.new.out)
    (c.in_ok-push_destination.ensures ∙ ap (λ (x : List ℕ). x ++ destination_written names bytes events) c.new-destination.ensures.bytes))
    (title_codes names bytes events (string_bytes c.push_title.new.out)
    (c.in_ok-push_title.ensures ∙ ap (λ (x : List ℕ). x ++ title_written names bytes events) c.new-title.ensures.bytes))
