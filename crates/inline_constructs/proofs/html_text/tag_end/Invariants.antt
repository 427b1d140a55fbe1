use Rattle.std.proofs.Common.{◌≡◌, drop, false}
use Rattle.inline_constructs.proofs.Prelude.{is_end, place_of, tag_after}
use Rattle.inline_constructs.proofs.html_text.tag_end.Given as goal

-- what is left has the answer
abbrev pub invariant-loop-i : goal.invariant-loop-i
invariant-loop-i l = record {
  same : tag_after (place_of l.place) (drop l.i l.bytes) ≡ tag_after (place_of l.fn.start) (drop l.read l.bytes);
  goes_on : is_end (place_of l.place) ≡ false;
}
