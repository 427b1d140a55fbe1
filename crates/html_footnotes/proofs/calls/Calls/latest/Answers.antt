use Rattle.std.proofs.Common.{◌≡◌, ◌+◌, ◌-◌, ◌<◌, List, length, map, ap, ◌∙◌, arith}
use Rattle.html_footnotes.proofs.Prelude.{called_view, latest_call, length-map, NoteCalls, number_of}
use Rattle.html_footnotes.proofs.Numbers.{found, number_read, within_table}
use Rattle.html_footnotes.proofs.Rows.{row_latest}
use Rattle.html_footnotes.proofs.calls.Calls.latest.Goals as goal

pub index-called-requires : goal.index-called-requires
index-called-requires g c =
    let called : List NoteCalls = map called_view c.self.inside.called.items in
    let number = c.index-number.result.now in
    let numbers = c.self.inside.numbers.items in
    let same : number_of c.args.place called ≡ number_of c.args.place c.args.self.now = ap (number_of c.args.place) c.self.view_is in
    let some : 0 < number_of c.args.place called = omega (arith, same, c.requires) in
    let is : number ≡ number_of c.args.place called =
    number_read numbers called c.args.place number c.self.invariant c.index-number.ensures
    (within_table numbers called c.args.place c.self.invariant some) in
    let stands : number_of c.args.place called ≡ 1 + (number - 1) = omega (arith, is, some) in
    let below : number - 1 < length called = found c.args.place 1 (number - 1) called (omega arith) stands in
    omega (arith, below, length-map c.self.inside.called.items called_view)

pub returns : goal.returns
returns g c =
    let called : List NoteCalls = map called_view c.self.inside.called.items in
    let number = c.index-number.result.now in
    let numbers = c.self.inside.numbers.items in
    let same : number_of c.args.place called ≡ number_of c.args.place c.args.self.now = ap (number_of c.args.place) c.self.view_is in
    let some : 0 < number_of c.args.place called = omega (arith, same, c.requires) in
    let is : number ≡ number_of c.args.place called =
    number_read numbers called c.args.place number c.self.invariant c.index-number.ensures
    (within_table numbers called c.args.place c.self.invariant some) in
    let stands : number_of c.args.place called ≡ 1 + (number - 1) = omega (arith, is, some) in
    let size : number ≡ 1 + (number - 1) = omega (arith, is, some) in
    row_latest c.self.inside.called.items c.args.place number (number - 1) c.index-called.result.now c.as_str.result.now c.as_str.ensures.value
    c.index-called.ensures size stands
    ∙ ap (latest_call c.args.place 1) c.self.view_is
