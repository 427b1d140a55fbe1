use Rattle.std.proofs.Common.{ap, sym, ◌∙◌, arith}
use Rattle.definition_text.specs.Content.{content_codes}
use Rattle.definition_inline.specs.HardBreak.{ends_inner_line}
use Rattle.inline_leaves.proofs.HardBreakTrailingLemmas.{trailing_short, trailing_tab, trailing_spaces}
use Rattle.inline_leaves.proofs.hard_break_trailing.is_trailing_break.Goals as goal

pub returns-then-size-lt-HARD_BREAK_PREFIX_SIZE_MIN : goal.returns-then-size-lt-HARD_BREAK_PREFIX_SIZE_MIN
returns-then-size-lt-HARD_BREAK_PREFIX_SIZE_MIN c = sym (trailing_short c.args.bytes.now c.white_size-size.result c.white_size-size.ensures.size (omega arith))

pub returns-then-not-are_spaces : goal.returns-then-not-are_spaces
returns-then-not-are_spaces c =
    sym (trailing_tab c.args.bytes.now c.white_size-size.result c.white_size-size.ensures.size (sym c.are_spaces.ensures ∙ c.if-not-are_spaces.true))

pub returns : goal.returns
returns c =
    c.ends_inner_line.ensures ∙ ap (λ s. ends_inner_line (content_codes s)) c.from.ensures
    ∙ sym (trailing_spaces c.args.bytes.now c.white_size-size.result c.white_size-size.ensures.size (omega arith)
    (sym c.are_spaces.ensures ∙ c.if-not-are_spaces.false))
