use Rattle.std.proofs.Common.{refl, arith, length-append}
use Rattle.parse_lines.proofs.Prelude.{ending_bytes}
use Rattle.parse_lines.proofs.ContentLines.{writes_ending}
use Rattle.parse_lines.proofs.walk.Walk.content_ending.Goals as goal

pub returns-clause-written : goal.returns-clause-written
returns-clause-written g c text content stop ending sized apart other quote bytes st =
    let old = c.args.self.now in
    let mid = c.ending.new.self in
    let begun = c.begin_line.new.self in
    let ended = c.in_ok-ending.ensures in
    let began = c.in_ok-begin_line.ensures in
    let place = c.saturating_add-place.result in
    writes_ending text stop c.args.name ending content old mid begun
    (record begun { place = place; line_place = place; line_start = c.start_of-self.result }) c.args.size sized apart other quote bytes st ended.ends ended.written
    ended.around began.begins began.written began.around refl refl
    (omega (arith, c.saturating_add-place.ensures, st.fits, sized, length-append (ending_bytes ending) content)) refl c.start_of-self.ensures
