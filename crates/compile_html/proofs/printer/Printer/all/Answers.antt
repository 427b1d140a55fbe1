use Rattle.std.proofs.Common.{◌≡◌, ℕ, ◌-◌, List, [], ◌∷◌, length, refl, sym, ap, ◌∙◌, subst, arith}
use Rattle.compile_html.proofs.Prelude.{Event, GoesOn}
use Rattle.compile_html.proofs.Going.{at_end}
use Rattle.compile_html.proofs.Reading.{first_and_rest, none_left}
use Rattle.compile_html.proofs.printer.Printer.all.Goals as goal

pub loop-rest-preserved : goal.loop-rest-preserved
loop-rest-preserved g c =
    let rest = c.loop-rest.rest.now in
    let events = c.args.events.now in
    let of_list = c.args.source.now.checked.events.now in
    let k = c.loop-rest.invariant in
    let whole_rest = first_and_rest rest _ (length rest) c.in-len1-up.len_at_least refl in
    record {
      same_default = c.event.ensures.default ∙ k.same_default;
      counted = c.event.ensures.counted;
      shorter = let s = c.in_ok-rest.ensures.shorter in omega (arith, s, ap length whole_rest);
      printed = λ m ds whole meant is goes.
          let names = g.T.Tables.reference_of c.args.source.now.tables.now in
          let bytes = c.args.source.now.checked.bytes.now in
          let before = k.printed m ds whole meant is goes in
          let P : List Event → Type 0 = λ es. GoesOn names bytes m of_list whole c.loop-rest.self es in
          let Q : List Event → Type 0 = λ es. GoesOn names bytes m es whole c.loop-rest.self rest in
          let R : List Event → Type 0 = λ es. GoesOn names bytes m es whole c.event.new.self c.in_ok-rest.rest.now in
          subst R (sym is)
          (c.in_ok-rest.ensures.printed m ds whole meant
          (ap (λ (es : List Event). length es - length rest) is ∙ ap (λ (n : ℕ). length of_list - n) (sym (ap length whole_rest)))
          (subst P (sym whole_rest) (subst Q is before)));
    }

pub returns-clause-printed : goal.returns-clause-printed
returns-clause-printed g c = λ m ds whole meant is goes.
    let names = g.T.Tables.reference_of c.args.source.now.tables.now in
    let bytes = c.args.source.now.checked.bytes.now in
    let P : List Event → Type 0 = λ es. GoesOn names bytes m c.args.events.now whole c.loop-rest.self es in
    at_end names bytes m (subst P (none_left c.loop-rest.rest.now c.in_default.len_below) (c.loop-rest.invariant.printed m ds whole meant is goes))
