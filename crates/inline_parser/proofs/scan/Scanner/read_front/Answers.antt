use Rattle.std.proofs.Common.{◌<◌, ap, ◌∙◌, arith, map, take}
use Rattle.definition_inline.specs.Scan as scan
use Rattle.inline_parser.proofs.Prelude.{context_by, leads_to, linked_at, linked_by, leaf_items, read_tokens, view_at}
use Rattle.text_bytes.proofs.Ascii.{boundary_before}
use Rattle.inline_text.specs.Plain.{front_leaf}
use Rattle.inline_parser.proofs.Follow as follow
use Rattle.inline_parser.proofs.Follow.{on_ok}
use Rattle.inline_parser.proofs.scan.Scanner.read_front.Goals as goal

pub front-requires-clause-boundary : goal.front-requires-clause-boundary
front-requires-clause-boundary g c =
    boundary_before c.args.self.now.rest.now c.args.front.size c.requires.front.within c.requires.front.ascii

pub front-requires-clause-next : goal.front-requires-clause-next
front-requires-clause-next g c = c.requires.front.ending (omega (arith, c.if-front-eq0.false))

pub returns-clause-read : goal.returns-clause-read
returns-clause-read g c ds final has f =
    let source = c.args.source.now in
    let options = source.options.now in
    let names = g.T.Tables.reference_of source.tables.now in
    let p = g.T.Tables.punctuation_of source.tables.now in
    let rest = c.args.self.now.rest.now in
    let place = c.requires.placed.place in
    let leads = leads_to (linked_by ds.definitions) in
    let at = linked_at ds.definitions in
    let n = c.args.front.size in
    let soft = c.args.front.is_verbatim in
    let told = c.requires.front in
    let some : 0 < n = omega (arith, c.if-front-eq0.false) in
    on_ok c.front.result c.front.ensures.rest (c.front.ensures.read leads at f.now f.shows)
    (λ left shows.
    record {
      now = read_tokens (leaf_items (map (front_leaf soft) (take n rest))) f.now;
      shows = shows;
      same =
          ap (λ r. scan.scan (context_by options names ds) 0 (read_tokens (leaf_items (map (front_leaf soft) (take n rest))) f.now)
          (view_at p source.content r)) left
          ∙ follow.front_follows options names p ds source.content soft rest n f.now final place told.within told.text told.plain told.bare
          (told.ending some) f.same;
    })
