use Rattle.std.proofs.Common.{◌≡◌, ◌+◌, ◌-◌, ◌<◌, List, length, map, ap, ◌∙◌, arith, vec_len}
use Rattle.html_footnotes.proofs.Prelude.{AreNumbers, called_view, length-map, NoteCalls, number_of, once_more}
use Rattle.html_footnotes.proofs.Numbers.{Counted, counted_again, counted_first, found, number_read}
use Rattle.html_footnotes.proofs.calls.Calls.count.Given.{Over}
use Rattle.html_footnotes.proofs.calls.Calls.count.Goals as goal

pub raise-requires : goal.raise-requires
raise-requires g c =
    let called : List NoteCalls = map called_view c.self.inside.called.items in
    let number = c.index-number.result.now in
    let numbers = c.make_room.new.numbers.items in
    let are : AreNumbers numbers called = λ k. c.make_room.ensures.same k ∙ c.self.invariant k in
    let is : number ≡ number_of c.args.place called =
    number_read numbers called c.args.place number are c.index-number.ensures (omega (arith, c.in_ok-make_room.ensures.room)) in
    let stands : number_of c.args.place called ≡ 1 + (number - 1) = omega (arith, is, c.if-number-gt0.true) in
    let below : number - 1 < length called = found c.args.place 1 (number - 1) called (omega arith) stands in
    omega (arith, below, length-map c.self.inside.called.items called_view)

-- one more call of a footnote that is called
again : (g : Over) (c : goal.In_ok-raise g)
    → Counted c.make_room.new.numbers.items (map called_view c.raise.new.called.items) c.args.place c.args.label.now
    (map called_view c.self.inside.called.items)
again g c =
    let called : List NoteCalls = map called_view c.self.inside.called.items in
    let number = c.index-number.result.now in
    let numbers = c.make_room.new.numbers.items in
    let are : AreNumbers numbers called = λ k. c.make_room.ensures.same k ∙ c.self.invariant k in
    let is : number ≡ number_of c.args.place called =
    number_read numbers called c.args.place number are c.index-number.ensures (omega (arith, c.in_ok-make_room.ensures.room)) in
    counted_again numbers called (map called_view c.raise.new.called.items) c.args.place number c.args.label.now are is c.if-number-gt0.true
    c.in_ok-raise.ensures.raised

pub invariant_of-self-then-number-gt0 : goal.invariant_of-self-then-number-gt0
invariant_of-self-then-number-gt0 g c = (again g c).table

pub returns-then-number-gt0-clause-called : goal.returns-then-number-gt0-clause-called
returns-then-number-gt0-clause-called g c = (again g c).is ∙ ap (once_more c.args.place c.args.label.now) c.self.view_is

pub returns-then-number-gt0-clause-number : goal.returns-then-number-gt0-clause-number
returns-then-number-gt0-clause-number g c = (again g c).some

-- a first call of a footnote
first : (g : Over) (c : goal.In_ok-add g)
    → Counted c.add.new.numbers.items (map called_view c.add.new.called.items) c.args.place c.args.label.now (map called_view c.self.inside.called.items)
first g c =
    let called : List NoteCalls = map called_view c.self.inside.called.items in
    let number = c.index-number.result.now in
    let numbers = c.make_room.new.numbers.items in
    let are : AreNumbers numbers called = λ k. c.make_room.ensures.same k ∙ c.self.invariant k in
    let within : c.args.place < length numbers = omega (arith, c.in_ok-make_room.ensures.room) in
    let is : number ≡ number_of c.args.place called = number_read numbers called c.args.place number are c.index-number.ensures within in
    let whole : vec_len c.self.inside.called ≡ length called = omega (arith, length-map c.self.inside.called.items called_view) in
    counted_first numbers c.add.new.numbers.items called (map called_view c.add.new.called.items) c.args.place number
    (vec_len c.self.inside.called) c.args.label.now are within is c.if-number-gt0.false whole c.in_ok-add.ensures.called c.in_ok-add.ensures.numbers

pub invariant_of-self-2 : goal.invariant_of-self-2
invariant_of-self-2 g c = (first g c).table

pub returns-clause-called : goal.returns-clause-called
returns-clause-called g c = (first g c).is ∙ ap (once_more c.args.place c.args.label.now) c.self.view_is

pub returns-clause-number : goal.returns-clause-number
returns-clause-number g c = (first g c).some
