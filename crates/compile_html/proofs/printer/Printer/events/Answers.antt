use Rattle.std.proofs.Common.{◌≡◌, Bool, true, false, not, List, sym, ap, ◌∙◌, subst}
use Rattle.compile_html.proofs.Prelude.{ending_bytes, ends_in, Event, fresh_unless, GoesOn, in_bytes, layout_after, LineEnding, page_view}
use Rattle.html_leaves.specs.Prints.{with_fresh}
use Rattle.engine_events.specs.declared.event.Name.TheVariants.{BlankLineEnding}
use Rattle.compile_html.proofs.printer.Printer.events.Goals as goal

pub returns-in_ok-fresh-clause-printed : goal.returns-in_ok-fresh-clause-printed
returns-in_ok-fresh-clause-printed g c = λ m ds ns whole meant nodes is goes.
    let names = g.T.Tables.reference_of c.args.source.now.tables.now in
    let bytes = c.args.source.now.checked.bytes.now in
    let old = c.args.self.now.leaves.page in
    let mid = c.all.new.self.leaves.page in
    let P : List Event → Type 0 = λ es. GoesOn names bytes m es whole c.args.self.now es in
    let printed : page_view mid ≡ whole = c.in_ok-all.ensures.printed m ds whole meant c.events-events.ensures (subst P (sym c.events-events.ensures) goes) in
    let blank : ends_in BlankLineEnding false ns ≡ true = sym (c.ends_in.ensures ns nodes (c.events-events.ensures ∙ is)) ∙ c.if-ends_in.true in
    c.in_ok-fresh.ensures.printed
    ∙ ap (λ (ending : LineEnding). with_fresh (ending_bytes ending) (page_view mid)) c.in_ok-all.ensures.default
    ∙ ap (with_fresh (ending_bytes old.default_ending)) printed
    ∙ ap (λ (b : Bool). layout_after m.compile old.default_ending whole (in_bytes (fresh_unless (not b)))) (sym blank)

pub returns-else-ends_in-clause-printed : goal.returns-else-ends_in-clause-printed
returns-else-ends_in-clause-printed g c = λ m ds ns whole meant nodes is goes.
    let names = g.T.Tables.reference_of c.args.source.now.tables.now in
    let bytes = c.args.source.now.checked.bytes.now in
    let old = c.args.self.now.leaves.page in
    let mid = c.all.new.self.leaves.page in
    let P : List Event → Type 0 = λ es. GoesOn names bytes m es whole c.args.self.now es in
    let printed : page_view mid ≡ whole = c.in_ok-all.ensures.printed m ds whole meant c.events-events.ensures (subst P (sym c.events-events.ensures) goes) in
    let none : ends_in BlankLineEnding false ns ≡ false = sym (c.ends_in.ensures ns nodes (c.events-events.ensures ∙ is)) ∙ c.if-ends_in.false in
    printed ∙ ap (λ (b : Bool). layout_after m.compile old.default_ending whole (in_bytes (fresh_unless (not b)))) (sym none)
