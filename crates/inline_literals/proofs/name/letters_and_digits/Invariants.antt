use Rattle.std.proofs.Common.{◌≡◌, ◌≤◌, ◌+◌, length, take}
use Rattle.std.specs.List.{suffix_len}
use Rattle.definition_text.specs.Bytes.{is_letter_or_digit}
use Rattle.inline_literals.proofs.name.letters_and_digits.Given as goal

-- what was passed so far is of the suffix of letters and digits
abbrev pub invariant-loop-start : goal.invariant-loop-start
invariant-loop-start l = record {
  in_range : l.start ≤ length l.text;
  cut : l.start + suffix_len is_letter_or_digit l.text ≡ length l.text + suffix_len is_letter_or_digit (take l.start l.text);
}

abbrev pub decreases-loop-start : goal.decreases-loop-start
decreases-loop-start l = l.start
