use Rattle.std.proofs.Common.{◌≡◌, sym, ap, ◌∙◌, length, take, drop, None}
use Rattle.inline_parser.proofs.Prelude.{content_codes, context_by, leads_to, linked_at, linked_by, read_tokens, start_bytes, start_view, text_items, view_at}
use Rattle.inline_parser.proofs.Prelude.{with_open_label}
use Rattle.definition_inline.specs.Scan as scan
use Rattle.inline_parser.proofs.Follow as follow
use Rattle.inline_parser.proofs.Follow.{on_ok}
use Rattle.inline_parser.proofs.scan.Scanner.label_or_byte.Goals as goal

pub text-requires-clause-boundary : goal.text-requires-clause-boundary
text-requires-clause-boundary g c = c.requires.first.boundary

pub returns-in-Some-clause-read : goal.returns-in-Some-clause-read
returns-in-Some-clause-read g c ds final has f =
    let source = c.args.source.now in
    let options = source.options.now in
    let names = g.T.Tables.reference_of source.tables.now in
    let p = g.T.Tables.punctuation_of source.tables.now in
    let rest = c.args.self.now.rest.now in
    let place = c.requires.placed.place in
    let leads = leads_to (linked_by ds.definitions) in
    let at = linked_at ds.definitions in
    let s = c.in-Some.start in
    let n = length (start_bytes (start_view s)) in
    on_ok c.start.result c.start.ensures.rest (c.start.ensures.read leads at f.now f.shows)
    (λ left shows.
    record {
      now = with_open_label s (drop n rest) f.now;
      shows = shows;
      same =
          ap (λ r. scan.scan (context_by options names ds) 0 (with_open_label s (drop n rest) f.now) (view_at p source.content r)) left
          ∙ follow.start_follows options names p ds source.content rest s f.now final place c.requires.no_leaf c.requires.no_run c.in-Some.ensures.read
          c.in-Some.ensures.front c.requires.some f.same;
    })

pub returns-else-is_label_end-clause-read : goal.returns-else-is_label_end-clause-read
returns-else-is_label_end-clause-read g c ds final has f =
    let source = c.args.source.now in
    let options = source.options.now in
    let names = g.T.Tables.reference_of source.tables.now in
    let p = g.T.Tables.punctuation_of source.tables.now in
    let rest = c.args.self.now.rest.now in
    let place = c.requires.placed.place in
    let leads = leads_to (linked_by ds.definitions) in
    let at = linked_at ds.definitions in
    let none : scan.label_start_at options.constructs (content_codes rest) ≡ None = sym c.in_default.ensures.read in
    on_ok c.text.result c.text.ensures.rest (c.text.ensures.read leads at f.now f.shows)
    (λ left shows.
    record {
      now = read_tokens (text_items (take 1 rest)) f.now;
      shows = shows;
      same =
          ap (λ r. scan.scan (context_by options names ds) 0 (read_tokens (text_items (take 1 rest)) f.now)
          (view_at p source.content r)) left
          ∙ follow.byte_follows options names p ds source.content rest f.now final place c.requires.no_leaf c.requires.no_run none
          (sym c.is_label_end.ensures ∙ c.if-is_label_end.false) c.requires.first c.requires.some f.same;
    })
