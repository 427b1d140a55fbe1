use Rattle.std.proofs.Common.{Option, Some, eqb, sym, ap, ◌∙◌, subst, take, drop, get_or}
use Rattle.inline_parser.proofs.Prelude.{and_parts, content_codes, context_by, ended_here, eqb-true, formed_in, IsAfterEnd, IsFormed, IsPlace, LabelForm}
use Rattle.inline_parser.proofs.Prelude.{labels_of, leads_to, linked_at, linked_by, read_tokens, size_before, text_items, unformed_in, view_at}
use Rattle.definition_inline.specs.LabelEnd.{Leads, Calls}
use Rattle.definition_inline.specs.Scan as scan
use Rattle.inline_reading.specs.Shows.{StartsBefore}
use Rattle.inline_label_ends.proofs.Leading.{target_leads}
use Rattle.inline_parser.proofs.Placed as placed
use Rattle.inline_parser.proofs.Follow as follow
use Rattle.inline_parser.proofs.Follow.{on_ok}
use Rattle.inline_parser.proofs.Views as views
use Rattle.inline_parser.proofs.scan.Scanner.end.Goals as goal

pub cut_after-after-requires : goal.cut_after-after-requires
cut_after-after-requires g c = follow.single_end c.args.self.now.rest.now c.requires.some c.requires.first

pub innermost_label_end-requires-clause-bracket : goal.innermost_label_end-requires-clause-bracket
innermost_label_end-requires-clause-bracket g c =
    follow.with_first c.args.self.now.rest.now c.cut_after-after.result.now c.requires.some
    (eqb-true (get_or c.args.self.now.rest.now 0 0) 93 (and_parts c.args.source.now.options.now.constructs.label_end
    (eqb (get_or c.args.self.now.rest.now 0 0) 93) c.requires.bracket).1) c.cut_after-after.ensures.rest

pub text-requires-clause-boundary : goal.text-requires-clause-boundary
text-requires-clause-boundary g c = c.requires.first.boundary

pub returns-in_ok-form-in-Some-Leads-clause-placed : goal.returns-in_ok-form-in-Some-Leads-clause-placed
returns-in_ok-form-in-Some-Leads-clause-placed g c =
    let s = c.args.self.now in
    let rest = s.rest.now in
    let content = c.args.source.now.content in
    let first = follow.single_next rest c.requires.first in
    let left = c.cut_after-after.ensures.rest in
    let there = subst (λ r. IsAfterEnd r c.in-Some-Leads.end.after.now) left
    (follow.some_place (c.in-Some-Leads.is ∙ ap (λ (x : LabelForm). Some x) c.in-Some-Leads.field-0-is) c.in_ok-end.ensures.place) in
    let next = follow.end_next (drop 1 rest) c.in-Some-Leads.end.after.now there in
    let middle = views.next_place content.text.now rest (drop 1 rest) c.requires.placed.place first in
    record {
      searched = c.requires.placed.searched;
      known = c.requires.placed.known;
      place = views.next_place content.text.now (drop 1 rest) c.in-Some-Leads.end.after.now middle next;
      labels = c.in_ok-form-in-Some-Leads.ensures.from c.in-Some-Leads.end.after.now
          (placed.labels_rest (drop 1 rest) c.in-Some-Leads.end.after.now s.reading.labels.items next.rest_of
          (placed.labels_rest rest (drop 1 rest) s.reading.labels.items first.rest_of c.requires.placed.labels));
      sound = c.in_ok-form-in-Some-Leads.ensures.sound;
    }

pub returns-in_ok-form-in-Some-Leads-clause-read : goal.returns-in_ok-form-in-Some-Leads-clause-read
returns-in_ok-form-in-Some-Leads-clause-read g c ds final has f =
    let source = c.args.source.now in
    let options = source.options.now in
    let names = g.T.Tables.reference_of source.tables.now in
    let p = g.T.Tables.punctuation_of source.tables.now in
    let rest = c.args.self.now.rest.now in
    let place = c.requires.placed.place in
    let leads = leads_to (linked_by ds.definitions) in
    let at = linked_at ds.definitions in
    let found = c.in-Some-Leads.end in
    let left = c.cut_after-after.ensures.rest in
    let there =
    subst (λ r. IsAfterEnd r found.after.now) left
    (follow.some_place (c.in-Some-Leads.is ∙ ap (λ (x : LabelForm). Some x) c.in-Some-Leads.field-0-is) c.in_ok-end.ensures.place) in
    let next = follow.end_next (drop 1 rest) found.after.now there in
    let ended =
    subst (λ (o : Option LabelForm). IsFormed (labels_of ds.definitions) c.cut_after-after.result.now o
    (ended_here (context_by options names ds) (content_codes rest) f.now.open_labels f.now.now))
    (c.in-Some-Leads.is ∙ ap (λ (x : LabelForm). Some x) c.in-Some-Leads.field-0-is)
    (c.in_ok-end.ensures.read leads at f.now names ds has f.shows) in
    let is = follow.found_is (labels_of ds.definitions) c.cut_after-after.result.now found
    (ended_here (context_by options names ds) (content_codes rest) f.now.open_labels f.now.now) ended in
    let both = and_parts options.constructs.label_end (eqb (get_or rest 0 0) 93) c.requires.bracket in
    record {
      now = formed_in (Leads is.end) f.now.open_labels f.now.now;
      shows = c.in_ok-form-in-Some-Leads.ensures.read leads at f.now is.end (target_leads ds.definitions found.target is.end.target is.as_end.target) f.shows;
      same =
          follow.formed_follows options names p ds source.content rest found.after.now
          (Leads is.end) f.now final place c.requires.no_leaf c.requires.no_run c.requires.no_start both.0 (eqb-true (get_or rest 0 0) 93 both.1)
          c.requires.first c.requires.some is.is (is.as_end.size ∙ ap (λ r. size_before r found.after.now) left) next f.same;
    }

pub returns-in_ok-call-in-Some-Calls-clause-placed : goal.returns-in_ok-call-in-Some-Calls-clause-placed
returns-in_ok-call-in-Some-Calls-clause-placed g c =
    let s = c.args.self.now in
    let rest = s.rest.now in
    let content = c.args.source.now.content in
    let first = follow.single_next rest c.requires.first in
    let left = c.cut_after-after.ensures.rest in
    record {
      searched = c.requires.placed.searched;
      known = c.requires.placed.known;
      place = subst (IsPlace content.text.now) (sym left) (views.next_place content.text.now rest (drop 1 rest) c.requires.placed.place first);
      labels = c.in_ok-call-in-Some-Calls.ensures.from c.cut_after-after.result.now
          (subst (λ r. StartsBefore r s.reading) (sym left) (placed.labels_rest rest
          (drop 1 rest) s.reading.labels.items first.rest_of c.requires.placed.labels));
      sound = c.in_ok-call-in-Some-Calls.ensures.sound;
    }

pub returns-in_ok-call-in-Some-Calls-clause-read : goal.returns-in_ok-call-in-Some-Calls-clause-read
returns-in_ok-call-in-Some-Calls-clause-read g c ds final has f =
    let source = c.args.source.now in
    let options = source.options.now in
    let names = g.T.Tables.reference_of source.tables.now in
    let p = g.T.Tables.punctuation_of source.tables.now in
    let rest = c.args.self.now.rest.now in
    let place = c.requires.placed.place in
    let leads = leads_to (linked_by ds.definitions) in
    let at = linked_at ds.definitions in
    let label = content_codes c.in-Some-Calls.label.now in
    let ended =
    subst (λ (o : Option LabelForm). IsFormed (labels_of ds.definitions) c.cut_after-after.result.now o
    (ended_here (context_by options names ds) (content_codes rest) f.now.open_labels f.now.now))
    (c.in-Some-Calls.is ∙ ap (λ (x : LabelForm). Some x) c.in-Some-Calls.field-0-is)
    (c.in_ok-end.ensures.read leads at f.now names ds has f.shows) in
    let is = follow.call_is (labels_of ds.definitions) c.cut_after-after.result.now c.in-Some-Calls.label
    (ended_here (context_by options names ds) (content_codes rest) f.now.open_labels f.now.now) ended in
    let both = and_parts options.constructs.label_end (eqb (get_or rest 0 0) 93) c.requires.bracket in
    let same = c.cut_after-after.ensures.rest in
    record {
      now = formed_in (Calls label) f.now.open_labels f.now.now;
      shows = c.in_ok-call-in-Some-Calls.ensures.read leads at f.now f.shows;
      same =
          ap (λ r. scan.scan (context_by options names ds) 0 (formed_in (Calls label) f.now.open_labels f.now.now) (view_at p source.content r)) same
          ∙ follow.formed_follows options names p ds source.content rest (drop 1 rest)
          (Calls label) f.now final place c.requires.no_leaf c.requires.no_run c.requires.no_start both.0 (eqb-true (get_or rest 0 0) 93 both.1)
          c.requires.first c.requires.some is (follow.none_after (drop 1 rest)) (follow.same_next (drop 1 rest)) f.same;
    }

pub returns-in-None-clause-placed : goal.returns-in-None-clause-placed
returns-in-None-clause-placed g c =
    let s = c.args.self.now in
    c.text.ensures.placed (g.T.Tables.punctuation_of c.args.source.now.tables.now) c.args.source.now.content
    (record {
      searched = c.requires.placed.searched;
      known = c.requires.placed.known;
      place = c.requires.placed.place;
      labels = c.unform.ensures.from s.rest.now c.requires.placed.labels;
      sound = c.unform.ensures.sound;
    })

pub returns-in-None-clause-read : goal.returns-in-None-clause-read
returns-in-None-clause-read g c ds final has f =
    let source = c.args.source.now in
    let options = source.options.now in
    let names = g.T.Tables.reference_of source.tables.now in
    let p = g.T.Tables.punctuation_of source.tables.now in
    let rest = c.args.self.now.rest.now in
    let place = c.requires.placed.place in
    let leads = leads_to (linked_by ds.definitions) in
    let at = linked_at ds.definitions in
    let ended =
    subst (λ (o : Option LabelForm). IsFormed (labels_of ds.definitions) c.cut_after-after.result.now o
    (ended_here (context_by options names ds) (content_codes rest) f.now.open_labels f.now.now)) c.in-None.is
    (c.in_ok-end.ensures.read leads at f.now names ds has f.shows) in
    let none = follow.none_is (labels_of ds.definitions) c.cut_after-after.result.now
    (ended_here (context_by options names ds) (content_codes rest) f.now.open_labels f.now.now) ended in
    let both = and_parts options.constructs.label_end (eqb (get_or rest 0 0) 93) c.requires.bracket in
    on_ok c.text.result c.text.ensures.rest (c.text.ensures.read leads at (unformed_in f.now.open_labels f.now.now)
    (c.unform.ensures.read leads at f.now f.shows))
    (λ left shows.
    record {
      now = read_tokens (text_items (take 1 rest)) (unformed_in f.now.open_labels f.now.now);
      shows = shows;
      same =
          ap (λ r. scan.scan (context_by options names ds) 0 (read_tokens (text_items (take 1 rest))
          (unformed_in f.now.open_labels f.now.now)) (view_at p source.content r)) left
          ∙ follow.nothing_follows options names p ds source.content rest f.now final place c.requires.no_leaf c.requires.no_run c.requires.no_start both.0
          (eqb-true (get_or rest 0 0) 93 both.1)
          c.requires.first c.requires.some none f.same;
    })
