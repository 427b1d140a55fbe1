use Rattle.std.proofs.Common.{◌≡◌, ◌+◌, ap, sym, ◌∙◌, arith}
use Rattle.parse_leaves.proofs.Prelude.{bytes_of, is_tab_column, prefix_len, rest_of}
use Rattle.parse_leaves.proofs.Starts.{white_count, white_of_rest}
use Rattle.parse_leaves.proofs.text.white_ahead.Goals as goal

pub returns : goal.returns
returns c =
    let rest = rest_of c.args.rest in
    let white : c.white_size.result ≡ white_count (bytes_of rest) = c.white_size.ensures.size ∙ ap white_count (c.as_bytes.ensures.value ∙ c.text.ensures) in
    let both : c.from.result + c.white_size.result ≡ prefix_len is_tab_column rest + white_count (bytes_of rest) =
    omega (arith, c.from.ensures, c.tab_columns.ensures.same, white) in
    both ∙ sym (white_of_rest rest)
