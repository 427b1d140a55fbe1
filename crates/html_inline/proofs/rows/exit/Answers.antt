use Rattle.std.proofs.Common.{◌≡◌, ◌++◌, [], ◌∷◌, string_bytes}
use Rattle.html_inline.proofs.Prelude.{meaning_by, on_ok_weaker, opened_view, output_view, place_target}
use Rattle.html_inline.proofs.OpenStack.{left}
use Rattle.html_inline.proofs.rows.exit.Goals as goal

pub returns-in-Some : goal.returns-in-Some
returns-in-Some g c = λ definition footnotes.
    let p = c.args.printing.now in
    let meaning = meaning_by (g.T.Tables.reference_of p.tables.now) p definition footnotes in
    let at = place_target p.definitions.now in
    let view = opened_view meaning at c.args.rows.now in
    let popped : c.args.scratch.now.stack.items ≡ c.pop.new.self.items ++ c.in-Some.part ∷ [] = c.in-Some.ensures.items in
    on_ok_weaker c.push_end.result
    (λ (e : string_bytes c.push_end.new.out ≡ string_bytes c.args.out.now.html ++ (view c.in-Some.part).ending).
    left view (output_view c.args.out.now) (string_bytes c.push_end.new.out) c.args.scratch.now.stack.items c.pop.new.self.items c.in-Some.part popped e)
    (c.push_end.ensures definition footnotes)
