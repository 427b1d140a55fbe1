-- Autolinks (CommonMark 6.5): an absolute URI or an email address between `<` and `>`.
use Rattle.std.specs.Prelude.{◌+◌, ◌-◌, Bool, true, false, if◌then◌else◌, not, ◌==◌, ◌&&◌, ◌||◌, nat_le, nat_lt, List, [], ◌∷◌, Option, None, Some, codes}
use Rattle.std.specs.Prelude.{drop, length, slice_index}
use Rattle.std.specs.List.{prefix_len, take_while, list_all, list_any}
use Rattle.markdown_options.specs.declared.configuration.Constructs.{Constructs}
use Rattle.definition_text.specs.Ascii.{plus, hyphen, dot, less_than, greater_than, delete}
use Rattle.definition_text.specs.Columns.{Code}
use Rattle.definition_text.specs.Bytes.{is_letter_or_digit, after_all, begins_with_letter, begins_with}
use Rattle.definition_text.specs.Content.{text_before}
use Rattle.definition_inline.specs.Inline.{Found, leaf, Autolink, or_else}

-- a byte of a scheme: a letter, a digit, `+`, `.` or `-` (CommonMark 6.5)
abbrev pub is_scheme_byte : Code → Bool
is_scheme_byte b = is_letter_or_digit b || ((b == plus) || ((b == dot) || (b == hyphen)))

-- a byte of a URI after its scheme: no control character, space, `<` or `>` (CommonMark 6.5)
abbrev pub is_uri_byte : Code → Bool
is_uri_byte b = (nat_lt 32 b && nat_lt b 256) && not ((b == less_than) || ((b == greater_than) || (b == delete)))

-- a scheme of 2 to 32 bytes, the first a letter (CommonMark 6.5)
abbrev pub begins_with_scheme : List Code → Bool
begins_with_scheme content =
    let size = prefix_len is_scheme_byte content in
    begins_with_letter content && (nat_le 2 size && nat_le size 32)

-- what follows the `:` that comes first and the bytes of a URI
abbrev pub after_uri : List Code → List Code
after_uri content = after_all is_uri_byte (drop 1 content)

-- what follows the absolute URI that a content begins with: a scheme, `:`, and other bytes (CommonMark 6.5)
abbrev pub uri_end : List Code → Option (List Code)
uri_end content =
    let rest = after_all is_scheme_byte content in
    if begins_with_scheme content && begins_with (codes ":") rest then Some (after_uri rest) else None

-- a byte of an email address before its `@` (CommonMark 6.5)
abbrev pub is_email_byte : Code → Bool
is_email_byte b = is_letter_or_digit b || list_any (λ other. b == other) (codes ".!#$%&'*+/=?^_`{|}~-")

-- a byte of a domain: a letter, a digit, `-`, or `.` between its labels (CommonMark 6.5)
abbrev pub is_domain_byte : Code → Bool
is_domain_byte b = is_letter_or_digit b || ((b == hyphen) || (b == dot))

-- a byte before the first of these parts of a text
abbrev pub in_first : Code → List (List Code) → List (List Code)
in_first b [] = (b ∷ []) ∷ []
in_first b (first ∷ others) = (b ∷ first) ∷ others

-- the parts of a text between its dots
abbrev pub between_dots : List Code → List (List Code)
between_dots [] = [] ∷ []
between_dots (b ∷ bs) = if b == dot then [] ∷ between_dots bs else in_first b (between_dots bs)

-- a label of a domain: 1 to 63 bytes, no `-` at either end (CommonMark 6.5)
abbrev pub is_domain_label : List Code → Bool
is_domain_label label =
    (nat_le 1 (length label) && nat_le (length label) 63)
    && not ((slice_index label 0 == hyphen) || (slice_index label (length label - 1) == hyphen))

-- labels with dots between (CommonMark 6.5)
abbrev pub is_domain : List Code → Bool
is_domain text = list_all is_domain_label (between_dots text)

-- what follows a domain that comes first
abbrev pub domain_end : List Code → Option (List Code)
domain_end content = if is_domain (take_while is_domain_byte content) then Some (after_all is_domain_byte content) else None

-- what follows the email address that a content begins with: one byte or more, `@`, and a domain (CommonMark 6.5)
abbrev pub email_end : List Code → Option (List Code)
email_end content =
    let rest = after_all is_email_byte content in
    if nat_le 1 (prefix_len is_email_byte content) && begins_with (codes "@") rest then domain_end (drop 1 rest) else None

-- an autolink to what stands before the rest, if there is such a rest, and a `>` begins it (CommonMark 6.5)
abbrev pub closed_autolink : Bool → List Code → Option (List Code) → Option Found
closed_autolink is_email content None = None
closed_autolink is_email content (Some rest) =
    if begins_with (codes ">") rest then Some (leaf (Autolink is_email (text_before content rest) ∷ []) (length (text_before content rest) + 2)) else None

-- an autolink after its `<` (CommonMark 6.5)
abbrev pub autolink_after : List Code → Option Found
autolink_after content = or_else (closed_autolink false content (uri_end content)) (closed_autolink true content (email_end content))

-- an autolink (CommonMark 6.5)
abbrev pub autolink_at : Constructs → List Code → Option Found
autolink_at on content = if on.autolink && begins_with (codes "<") content then autolink_after (drop 1 content) else None
