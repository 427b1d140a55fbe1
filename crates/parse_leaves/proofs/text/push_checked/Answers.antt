use Rattle.std.proofs.Common.{◌≡◌, ◌<◌, ℕ, [], ap, sym, subst, ◌∙◌, drop, get_or}
use Rattle.parse_leaves.proofs.Prelude.{check_of, content_codes, context_of, inlines_from, IsAfterCheck, on_ok_weaker, reading_by, StandsInContent, utf8_bytes}
use Rattle.parse_leaves.proofs.Prelude.{view_at, without_white, WritesText}
use Rattle.parse_leaves.specs.Texts.{WritesIndent}
use Rattle.parse_leaves.proofs.Checked.{after_check, after_white, read_bare, stands_at_start, start_bare}
use Rattle.parse_leaves.proofs.text.push_checked.Goals as goal

pub returns-in-None-clause-written : goal.returns-in-None-clause-written
returns-in-None-clause-written g c =
    let old = c.args.walk.now in
    let mid = c.push_indent.new.walk in
    let new = c.push_from.new.walk in
    let content = c.args.content in
    let start = c.content_start-start.result.now in
    let place = c.content_start-start.ensures.place in
    on_ok_weaker c.push_from.result
    (λ structure. λ ds known text stop st le.
    let r = reading_by g.T.Tables c.args.texts.now ds in
    let p = r.tables.is_punctuation in
    let view = c.content_start-start.ensures.view p in
    let bytes = subst (λ t. (k : ℕ) → get_or t.now k 0 < 256) c.text.ensures (utf8_bytes c.text.result.now c.text.utf8) in
    let bare = start_bare r content start place view bytes in
    let indent =
    subst (λ t. start ≡ without_white t.now → WritesIndent t.now old mid) c.text.ensures c.in_ok-push_indent.ensures.written in
    let white = indent bare text stop st le in
    let is = inlines_from (context_of r) (view_at p content start) in
    subst (λ js. WritesText r.parse.constructs r.tables.names text (drop old.place content.text.now) js [] stop old new)
    (read_bare r content start place view c.args.first c.in-None.ensures.read)
    (after_white r content start place view text stop old mid bare white new is
    (structure ds known text stop (stands_at_start r content start place view text stop old mid bare white))))
    c.push_from.ensures.written

pub returns-in_ok-push_check-in-Some-clause-written : goal.returns-in_ok-push_check-in-Some-clause-written
returns-in_ok-push_check-in-Some-clause-written g c =
    let old = c.args.walk.now in
    let mid = c.push_indent.new.walk in
    let checked = c.push_check.new.walk in
    let new = c.push_from-in-Some.new.walk in
    let content = c.args.content in
    let start = c.content_start-start.result.now in
    let place = c.content_start-start.ensures.place in
    let check = c.in-Some.check in
    on_ok_weaker c.push_from-in-Some.result
    (λ structure. λ ds known text stop st le.
    let r = reading_by g.T.Tables c.args.texts.now ds in
    let view = c.content_start-start.ensures.view r.tables.is_punctuation in
    let bytes = subst (λ t. (k : ℕ) → get_or t.now k 0 < 256) c.text.ensures (utf8_bytes c.text.result.now c.text.utf8) in
    let bare = start_bare r content start place view bytes in
    let indent =
    subst (λ t. start ≡ without_white t.now → WritesIndent t.now old mid) c.text.ensures c.in_ok-push_indent.ensures.written in
    let white = indent bare text stop st le in
    after_check r content start place view text stop old mid bare white checked new c.args.first check.done check.after.now c.in-Some.ensures.read
    c.in-Some.ensures.place
    (λ front parts found stands whole.
    c.in_ok-push_check-in-Some.ensures.written r.parse.constructs r.tables.names text front check.after.now stop (c.as_bytes.ensures.value ∙ parts)
    (ap (λ bs. check_of (content_codes bs)) c.as_bytes.ensures.value ∙ found)
    (subst (λ bs. IsAfterCheck bs check.after.now) (sym c.as_bytes.ensures.value) c.in-Some.ensures.place)
    (subst (λ bs. StandsInContent text bs stop mid) (sym c.as_bytes.ensures.value) stands) whole)
    (structure ds known))
    c.push_from-in-Some.ensures.written

pub returns-in-None-clause-bytes : goal.returns-in-None-clause-bytes
returns-in-None-clause-bytes g c =
    let bytes = subst (λ t. (k : ℕ) → get_or t.now k 0 < 256) c.text.ensures (utf8_bytes c.text.result.now c.text.utf8) in
    on_ok_weaker c.push_from.result (λ is. bytes) c.push_from.ensures.«open»

pub returns-in_ok-push_check-in-Some-clause-bytes : goal.returns-in_ok-push_check-in-Some-clause-bytes
returns-in_ok-push_check-in-Some-clause-bytes g c =
    let bytes = subst (λ t. (k : ℕ) → get_or t.now k 0 < 256) c.text.ensures (utf8_bytes c.text.result.now c.text.utf8) in
    on_ok_weaker c.push_from-in-Some.result (λ is. bytes) c.push_from-in-Some.ensures.«open»
