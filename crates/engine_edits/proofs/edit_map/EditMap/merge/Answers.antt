use Rattle.std.proofs.Common.{◌∙◌, map, sym, ap, refl}
use Rattle.engine_edits.specs.Edits.{edit_of}
use Rattle.engine_edits.proofs.Places.{Merges, on_err, set_kept, set_merged, some_place, no_place}
use Rattle.engine_edits.proofs.edit_map.EditMap.merge.Goals as goal

pub returns-in_err-merge-clause-err : goal.returns-in_err-merge-clause-err
returns-in_err-merge-clause-err g c =
    on_err c.from_residual.result _
    (ap (map edit_of) (c.get_mut.follows.holds c.merge.new.self).0
    ∙ set_kept c.args.index c.args.self.now.edits.entries c.in-Some.edit.now c.merge.new.self
    (sym c.in-Some.ensures.value) c.in_err-merge.ensures.err_remove c.in_err-merge.ensures.err_add)

pub returns-in-Some-clause-edits : goal.returns-in-Some-clause-edits
returns-in-Some-clause-edits g c =
    let es = c.args.self.now.edits.entries in
    let at = sym c.in-Some.ensures.value in
    let there = some_place c.args.index es c.in-Some.edit.now at in
    let one : Merges c.args.before c.args.remove c.args.add.items c.in-Some.edit.now c.merge.new.self =
    record { removes = c.in_ok-merge.ensures.remove; adds = c.in_ok-merge.ensures.add } in
    rw there (ap (map edit_of) (c.get_mut.follows.holds c.merge.new.self).0
    ∙ set_merged c.args.before c.args.index c.args.remove c.args.add.items es c.in-Some.edit.now c.merge.new.self at one)

pub insert-requires : goal.insert-requires
insert-requires g c = rw c.get_mut.follows.holds-at-none (no_place c.args.index c.args.self.now.edits.entries (sym c.in_default.ensures.value))

pub returns-clause-edits : goal.returns-clause-edits
returns-clause-edits g c =
    let none = no_place c.args.index c.args.self.now.edits.entries (sym c.in_default.ensures.value) in
    rw none (c.in_ok-insert.ensures.edits ∙ rw c.get_mut.follows.holds-at-none refl)
