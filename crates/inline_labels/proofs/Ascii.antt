-- Words of ASCII with their case folded.
use Rattle.std.proofs.Common.{◌≡◌, ℕ, List, IsAscii, map, ap, ◌∙◌}
use Rattle.std.specs.Char.{to_ascii_lowercase}
use Rattle.std.specs.Str.{encode_utf8_all}
use Rattle.std.proofs.lemmas.Str.{IsUtf8-from_ascii, chars-IsAscii, encodes-IsAscii, utf8_lossy-IsUtf8}
use Rattle.std.proofs.lemmas.Str.Ascii.{All-from_ascii, IsAscii-map, lowercase_ascii}
use Rattle.caseless.specs.Caseless.{default_case_fold}
use Rattle.caseless.proofs.CaselessLemmas.{default_case_fold-ascii}
use Rattle.definition_inline.specs.LabelMatch.{case_fold, fold_word}

-- each letter is folded alone
pub folded_ascii : (word : List ℕ) → IsAscii word → fold_word word ≡ map to_ascii_lowercase word
folded_ascii word ascii =
    ap case_fold (utf8_lossy-IsUtf8 word (IsUtf8-from_ascii word ascii))
    ∙ ap (λ cs. encode_utf8_all (default_case_fold cs)) (chars-IsAscii word ascii)
    ∙ ap encode_utf8_all (default_case_fold-ascii word (All-from_ascii word ascii))
    ∙ encodes-IsAscii (map to_ascii_lowercase word) (IsAscii-map to_ascii_lowercase word lowercase_ascii ascii)
