use Rattle.std.proofs.Common.{◌≡◌, ◌≤◌, ◌+◌, ◌-◌, refl, ap, sym, ◌∙◌, false, arith, get_or, subst, length, take, drop}
use Rattle.std.proofs.lemmas.Bool.{eqb-true}
use borrow.Rule.Slice.PartMut.{put_mid}
use Rattle.inline_rows.proofs.Prelude.{AreBytes, pairs, rows_needed, rows_view, Run, run_rows, run_view, runs_view, told_rows}
use Rattle.inline_rows.proofs.Needed.{needed_at, rows_at}
use Rattle.inline_rows.proofs.Runs.{IsTold, none_told, one_told, all_told}
use Rattle.inline_rows.proofs.Writes.{part_size, length-over}
use Rattle.inline_rows.proofs.tell.tell_apart.Goals as goal

abbrev no_run : Run
no_run = record { marker = 0; size = 0; may_open = false; may_close = false }

pub loop-place-init : goal.loop-place-init
loop-place-init g c = record {
  count = refl;
  told = λ leads at outer inner tokens same container. none_told leads at outer inner tokens c.args.runs.now c.args.slots.now c.args.rows.now same container;
}

pub tell_run-requires : goal.tell_run-requires
tell_run-requires g c =
    let paired = c.in_ok-pair_runs.ensures in
    let runs = c.args.runs.now in
    let place = c.loop-place.place in
    let within = c.requires.ends place no_run c.loop-place-test.true in
    let count = c.loop-place.invariant.count in
    let size = part_size c.loop-place.rows (get_or c.args.slots.now place 0) (get_or runs place no_run).size (omega arith) in
    let needed = needed_at runs place no_run c.spans.result c.loop-place-test.true
    (c.spans.ensures.closed (runs_view runs) paired) (c.spans.ensures.opened (runs_view runs) paired) (λ e. c.spans.ensures.rows (runs_view runs) paired e) in
    subst (λ n. rows_needed c.spans.result ≤ n) (sym size) needed

pub loop-place-preserved : goal.loop-place-preserved
loop-place-preserved g c =
    let paired = c.in_ok-pair_runs.ensures in
    let runs = c.args.runs.now in
    let slots = c.args.slots.now in
    let place = c.loop-place.place in
    let slot = get_or slots place 0 in
    let run = get_or runs place no_run in
    let within = c.requires.ends place no_run c.loop-place-test.true in
    let count = c.loop-place.invariant.count in
    let size = part_size c.loop-place.rows slot run.size (omega arith) in
    let same : slot + run.size - slot ≡ run.size = omega arith in
    record {
      count = length-over c.loop-place.rows c.tell_run.new.rows slot (slot + run.size - slot) (omega arith) (c.tell_run.ensures.length ∙ size ∙ sym same)
          ∙ count;
      told = λ leads at outer inner tokens old container.
          subst (λ n. IsTold leads at outer tokens runs slots (place + 1) (put_mid slot n c.loop-place.rows c.tell_run.new.rows)) (sym same)
          (one_told leads at outer tokens runs slots place no_run c.loop-place.rows c.tell_run.new.rows c.loop-place-test.true c.requires.same
          (subst (λ n. length c.tell_run.new.rows ≡ length (take n (drop slot c.loop-place.rows))) same c.tell_run.ensures.length)
          (subst (λ n. AreBytes run.marker (length (take n (drop slot c.loop-place.rows))) (take n (drop slot c.loop-place.rows))
          → rows_view at c.tell_run.new.rows ≡ told_rows leads (run_rows (pairs (runs_view runs)) place (run_view run))) same
          (λ bytes. c.tell_run.ensures.told leads at bytes
          ∙ ap (told_rows leads) (rows_at runs place no_run c.spans.result c.loop-place-test.true (λ e. c.spans.ensures.rows (runs_view runs) paired e))))
          (c.loop-place.invariant.told leads at outer inner tokens old container));
    }

pub returns-clause-told : goal.returns-clause-told
returns-clause-told g c leads at outer inner tokens same container =
    all_told leads at outer inner tokens c.args.runs.now c.args.slots.now c.loop-place.place c.loop-place.rows c.loop-place-test.false container
    (c.loop-place.invariant.told leads at outer inner tokens same container)

pub returns-then-is_empty-clause-told : goal.returns-then-is_empty-clause-told
returns-then-is_empty-clause-told g c leads at outer inner tokens same container =
    let runs = c.args.runs.now in
    let slots = c.args.slots.now in
    let rows = c.args.rows.now in
    let none : length runs ≡ 0 = eqb-true (length runs) 0 (sym c.is_empty.ensures ∙ c.if-is_empty.true) in
    all_told leads at outer inner tokens runs slots 0 rows (omega (arith, none)) container
    (none_told leads at outer inner tokens runs slots rows same container)
