use Rattle.std.proofs.Common.{IfSome, sym, ap, ◌∙◌, subst}
use Rattle.definition_inline.specs.Scan as scan
use Rattle.inline_parser.proofs.Prelude.{context_by, found_leaf, IsAfter, leads_to, leaf_items, linked_at, linked_by, parts_of, read_tokens, view_at}
use Rattle.inline_parser.proofs.Follow as follow
use Rattle.inline_parser.proofs.Follow.{on_ok}
use Rattle.inline_parser.proofs.scan.Scanner.literal_or_run.Goals as goal

pub run_or_label-requires-clause-placed : goal.run_or_label-requires-clause-placed
run_or_label-requires-clause-placed g c =
    let p = c.requires.placed in
    record { searched = p.searched; known = c.literal_at.ensures.known; place = p.place; labels = p.labels; sound = p.sound }

pub returns-in-Some-clause-placed : goal.returns-in-Some-clause-placed
returns-in-Some-clause-placed g c =
    let p = c.requires.placed in
    c.leaf.ensures.placed (g.T.Tables.punctuation_of c.args.source.now.tables.now) c.args.source.now.content
    (record { searched = p.searched; known = c.literal_at.ensures.known; place = p.place; labels = p.labels; sound = p.sound })

pub run_or_label-requires-clause-no_leaf : goal.run_or_label-requires-clause-no_leaf
run_or_label-requires-clause-no_leaf g c =
    let source = c.args.source.now in
    let rest = c.args.self.now.rest.now in
    follow.with_literal source.options.now (g.T.Tables.reference_of source.tables.now)
    (g.T.Tables.punctuation_of source.tables.now) source.content rest c.requires.placed.place c.requires.no_leaf
    ∙ sym c.literal_at.ensures.read ∙ ap (found_leaf rest) c.in-None.is

pub returns-in-Some-clause-read : goal.returns-in-Some-clause-read
returns-in-Some-clause-read g c ds final has f =
    let source = c.args.source.now in
    let options = source.options.now in
    let names = g.T.Tables.reference_of source.tables.now in
    let p = g.T.Tables.punctuation_of source.tables.now in
    let rest = c.args.self.now.rest.now in
    let place = c.requires.placed.place in
    let leads = leads_to (linked_by ds.definitions) in
    let at = linked_at ds.definitions in
    let found = c.in-Some.leaf in
    on_ok c.leaf.result c.leaf.ensures.rest (c.leaf.ensures.read leads at f.now f.shows)
    (λ left shows.
    record {
      now = read_tokens (leaf_items (parts_of found.part)) f.now;
      shows = shows;
      same =
          ap (λ r. scan.scan (context_by options names ds) 0 (read_tokens (leaf_items (parts_of found.part)) f.now) (view_at p source.content r)) left
          ∙ follow.literal_follows options names p ds source.content rest found.after.now (parts_of found.part) f.now final place c.requires.no_leaf
          (ap (found_leaf rest) (sym c.in-Some.is) ∙ c.literal_at.ensures.read)
          (subst (λ o. IfSome o (λ leaf. IsAfter rest leaf.after.now)) c.in-Some.is c.literal_at.ensures.place) f.same;
    })
