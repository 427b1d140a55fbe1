use Rattle.std.proofs.Common.{◌≡◌, ◌<◌, true, drop, get_or, length, sym, rules, arith, inl, inr}
use Rattle.std.proofs.lemmas.Bool.{or_left}
use Rattle.definition_text.specs.Content.{content_codes, is_eol}
use Rattle.inline_text.specs.Plain.{is_text_at}
use Rattle.inline_text.proofs.Texts.{IsText, text_stops, text_end}
use Rattle.inline_text.proofs.Fronts.{first_ascii, first_stops, white_stops, stop_text, dark_text}
use Rattle.inline_text.proofs.Lines.{soft_line}
use Rattle.inline_text.proofs.plain.text_front.Goals as goal
use Rattle.inline_text.proofs.plain.text_front.Goals.{else-stop-bytes-via-then-stop-bytes+else-not-is_ending, else-stop-bytes-via-else-stop-bytes}

pub returns-then-not-is_ending : goal.returns-then-not-is_ending
returns-then-not-is_ending c =
    let bytes = c.args.bytes.now in
    let stop = c.next_start-stop.result.size in
    let first = c.next_start-stop.ensures.start in
    let is : IsText bytes stop = stop_text c.args.has_literals c.args.has_marks bytes stop first c.if-stop-bytes.true (sym c.if-not-is_ending.ensures) in
    record {
      within = first.within;
      text = λ k lt. or_left (is_text_at (drop k (content_codes bytes))) _ (is.text k lt);
      plain = is.plain;
      bare = first.bare;
      stops = λ lt. elim (first_stops c.args.has_literals c.args.has_marks bytes stop first lt) [
        | inl h ↦ inl (text_stops bytes stop is h)
        | inr more ↦ inr (inl more)
      ];
      ascii = λ lt. first_ascii c.args.has_literals c.args.has_marks bytes stop first (c.type_inv.bytes stop) lt;
      ending = text_end bytes stop is;
      verbatim = c.next_start-stop.ensures.verbatim;
    }

pub lines_front-requires-clause-lines : goal.lines_front-requires-clause-lines
lines_front-requires-clause-lines c =
    let told = c.next_start-stop.ensures in
    soft_line c.args.has_literals c.args.has_marks c.args.bytes.now c.type_inv.bytes c.next_start-stop.result.size told.start
    (told.verbatim c.if-stop.true) (c.is_soft.ensures c.if-is_soft.true)

pub without_white-requires : goal.without_white-requires
without_white-requires c = c.next_start-stop.ensures.start.within

pub returns : goal.returns
returns c =
    let bytes = c.args.bytes.now in
    let stop = c.next_start-stop.result.size in
    let first = c.next_start-stop.ensures.start in
    let size = c.without_white.result in
    let is : IsText bytes size = dark_text c.args.has_literals c.args.has_marks bytes stop first size c.without_white.ensures.within c.without_white.ensures.dark in
    let ending : stop < length bytes → is_eol (get_or bytes stop 0) ≡ true = λ inside. elim c.else-stop-bytes.branch [
      | else-stop-bytes-via-then-stop-bytes+else-not-is_ending w ↦ sym w.if-not-is_ending.ensures
      | else-stop-bytes-via-else-stop-bytes w ↦ absurd (omega (arith, w.if-stop-bytes.false, inside))
    ] in
    let ascii : size < length bytes → get_or bytes size 0 < 128 = search rules in
    record {
      within = is.within;
      text = λ k lt. or_left (is_text_at (drop k (content_codes bytes))) _ (is.text k lt);
      plain = is.plain;
      bare = λ k lt. first.bare k (omega (arith, lt, c.without_white.ensures.within));
      stops = λ lt.
          inl (text_stops bytes size is (white_stops bytes size stop lt c.without_white.ensures.within first.within c.without_white.ensures.white ending));
      ascii = ascii;
      ending = text_end bytes size is;
      verbatim = λ is.
          let are = c.next_start-stop.ensures.verbatim is in
          record {
            same = λ k lt. are.same k (omega (arith, lt, c.without_white.ensures.within));
            bare = λ k lt. are.bare k (omega (arith, lt, c.without_white.ensures.within));
          };
    }
