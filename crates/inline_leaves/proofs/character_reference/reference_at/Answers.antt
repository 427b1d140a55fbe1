use Rattle.std.proofs.Common.{lit<, ap, sym, ◌∙◌}
use Rattle.std.specs.Option.{option_map}
use Rattle.std.proofs.lemmas.Str.Pattern.{strip_prefix_char}
use Rattle.inline_references.specs.Markers.{value_text}
use Rattle.inline_leaves.specs.Leaves.{found_leaf, parts_of, size_before}
use Rattle.inline_leaves.proofs.CharacterReferenceLemmas.{reference_other, reference_none, reference_some, after_reference, known_leaf, unknown_leaf}
use Rattle.inline_leaves.proofs.character_reference.reference_at.Goals as goal

pub returns-in_err-strip_prefix-clause-read : goal.returns-in_err-strip_prefix-clause-read
returns-in_err-strip_prefix-clause-read g c =
    let xs = c.args.content.now in
    let other = rw c.in_err-strip_prefix.was at (strip_prefix_char 38 xs c.strip_prefix.result c.strip_prefix.ensures.cases (lit< tt)) in
    ap (found_leaf xs) c.from_residual.ensures ∙ sym (reference_other c.args.on.now (g.T.Tables.reference_of c.args.tables.now) xs c.if-not-on.false other)

pub returns-in_err-found-clause-read : goal.returns-in_err-found-clause-read
returns-in_err-found-clause-read g c =
    let xs = c.args.content.now in
    let is = rw c.in_ok-strip_prefix.was at (strip_prefix_char 38 xs c.strip_prefix.result c.strip_prefix.ensures.cases (lit< tt)) in
    ap (found_leaf xs) c.from_residual-in_err-found.ensures
    ∙ sym (reference_none c.args.on.now (g.T.Tables.reference_of c.args.tables.now) xs c.in_ok-strip_prefix.field-0.now
    c.if-not-on.false is c.in_err-found.ensures.read)

pub returns-in_err-part-clause-read : goal.returns-in_err-part-clause-read
returns-in_err-part-clause-read g c =
    let xs = c.args.content.now in
    let r = c.in_ok-found.found in
    let names = g.T.Tables.reference_of c.args.tables.now in
    let is = rw c.in_ok-strip_prefix.was at (strip_prefix_char 38 xs c.strip_prefix.result c.strip_prefix.ensures.cases (lit< tt)) in
    let none = sym (ap (option_map parts_of) c.in_err-part.was) ∙ c.value_part.ensures in
    ap (found_leaf xs) c.from_residual-in_err-part.ensures
    ∙ sym (reference_some c.args.on.now names xs c.in_ok-strip_prefix.field-0.now _ c.if-not-on.false is c.in_ok-found.ensures.read
    ∙ unknown_leaf (size_before xs r.rest.now) (value_text names r.marker r.value.now) none)

pub returns-clause-read : goal.returns-clause-read
returns-clause-read g c =
    let xs = c.args.content.now in
    let r = c.in_ok-found.found in
    let names = g.T.Tables.reference_of c.args.tables.now in
    let is = rw c.in_ok-strip_prefix.was at (strip_prefix_char 38 xs c.strip_prefix.result c.strip_prefix.ensures.cases (lit< tt)) in
    let known = sym (ap (option_map parts_of) c.in_ok-part.was) ∙ c.value_part.ensures in
    sym (reference_some c.args.on.now names xs c.in_ok-strip_prefix.field-0.now _ c.if-not-on.false is c.in_ok-found.ensures.read
    ∙ known_leaf (size_before xs r.rest.now) (value_text names r.marker r.value.now) (parts_of c.in_ok-part.part) known)

pub returns-clause-place : goal.returns-clause-place
returns-clause-place g c =
    let xs = c.args.content.now in
    let is = rw c.in_ok-strip_prefix.was at (strip_prefix_char 38 xs c.strip_prefix.result c.strip_prefix.ensures.cases (lit< tt)) in
    after_reference xs c.in_ok-strip_prefix.field-0.now c.in_ok-found.found is c.in_ok-found.ensures.cut
