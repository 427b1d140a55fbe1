-- Links with no brackets (GFM 6.9): addresses after `www.`, `http://` and `https://`, and email addresses.
use Rattle.std.specs.Prelude.{ℕ, zero, suc, ◌+◌, ◌-◌, Bool, true, false, if◌then◌else◌, not, ◌==◌, ◌&&◌, ◌||◌, nat_le, nat_lt, List, [], ◌∷◌, ◌++◌, Option}
use Rattle.std.specs.Prelude.{None, Some, codes, map, take, drop, length, reverse, slice_index, slice_index_or}
use Rattle.std.specs.List.{prefix_len, suffix_len, filter, list_any}
use Rattle.std.specs.Str.{bytes_eq}
use Rattle.markdown_options.specs.declared.configuration.Constructs.{Constructs}
use Rattle.definition_text.specs.Ascii.{left_parenthesis, right_parenthesis, dot, slash, semicolon, less_than, at_sign, left_bracket, right_bracket, underscore}
use Rattle.definition_text.specs.Ascii.{delete}
use Rattle.markdown_options.specs.declared.beside.Kind.{Kind}
use Rattle.definition_text.specs.Bytes.{is_letter, is_letter_or_digit, same_caselessly, begins_with}
use Rattle.definition_text.specs.Columns.{Code, is_white}
use Rattle.definition_text.specs.Content.{is_eol, is_space}
use Rattle.definition_text.specs.InlineCode.{InlineCode, codes_of, is_continuation}
use Rattle.definition_inline.specs.Attention.{is_other}
use Rattle.definition_inline.specs.Inline.{LiteralKind, Www, Protocol, Email, InlineLeaf, Data, Literal, Link, Image, Inline, Leaf, Span, Linked, Call}
use Rattle.definition_inline.specs.Inline.{Inlines, Nil, Cons, Found, leaf}

-- ---- where a literal begins

-- one of the bytes of a text
abbrev pub is_among : List ℕ → Code → Bool
is_among text code = list_any (λ other. code == other) text

-- `www.` begins a literal after nothing, a space, a tab or one of these bytes (GFM 6.9)
abbrev pub may_precede_www : Option Code → Bool
may_precede_www None = true
may_precede_www (Some code) = is_white code || is_among (codes "(*_[]~") code

-- a protocol begins a literal after anything but a letter (GFM 6.9)
abbrev pub may_precede_protocol : Option Code → Bool
may_precede_protocol None = true
may_precede_protocol (Some code) = not (is_letter code)

-- a content begins with a text, in either case
abbrev pub begins_caselessly : List ℕ → List Code → Bool
begins_caselessly text content = same_caselessly text (take (length text) content)

-- what a literal begins with: its kind, and how many codes that is
pub record LiteralStart : Type 0 where
  pub kind : LiteralKind
  pub size : ℕ

abbrev pub literal_start : LiteralKind → ℕ → LiteralStart
literal_start kind size = record { kind = kind; size = size }

abbrev pub www_start : Option Code → List Code → Option LiteralStart
www_start previous content =
    if may_precede_www previous && begins_caselessly (codes "www.") content then Some (literal_start Www 4) else None

abbrev pub protocol_start : Option Code → List Code → Option LiteralStart
protocol_start previous content =
    if not (may_precede_protocol previous) then None
    else (if begins_caselessly (codes "http://") content then Some (literal_start Protocol 7)
    else (if begins_caselessly (codes "https://") content then Some (literal_start Protocol 8)
    else None))

-- what begins a literal, or else another one
abbrev pub or_start : Option LiteralStart → Option LiteralStart → Option LiteralStart
or_start None other = other
or_start (Some start) other = Some start

-- `www.`, `http://` or `https://` comes first, after this code of its line (GFM 6.9)
abbrev pub literal_start_at : Option Code → List Code → Option LiteralStart
literal_start_at previous content = or_start (www_start previous content) (protocol_start previous content)

-- a control character of ASCII, or a line ending
abbrev pub is_control_or_ending : Code → Bool
is_control_or_ending code = nat_lt code 32 || ((code == delete) || is_eol code)

-- a character of this kind comes first, which is no whitespace, punctuation or control character
abbrev pub begins_name : Kind → List InlineCode → Bool
begins_name kind [] = false
begins_name kind (c ∷ cs) = is_other kind && not (is_control_or_ending c.code)

-- ---- where it ends

-- nothing, white space, `(` or `[` comes first
abbrev pub follows_label : List Code → Bool
follows_label [] = true
follows_label (c ∷ cs) = is_space c || ((c == left_parenthesis) || (c == left_bracket))

-- white space or `<`, or a `]` that may end a label
abbrev pub ends_literal : Code → List Code → Bool
ends_literal code after = is_space code || ((code == less_than) || ((code == right_bracket) && follows_label after))

-- the codes up to there (GFM 6.9)
abbrev pub literal_run : List Code → List Code
literal_run [] = []
literal_run (c ∷ cs) = if ends_literal c cs then [] else c ∷ literal_run cs

-- a byte that no literal ends with (GFM 6.9)
abbrev pub is_trailing : Code → Bool
is_trailing code = is_among (codes "!\"'*,.:;?_~") code

-- how many of this byte a text has
abbrev pub count_of : ℕ → List Code → ℕ
count_of byte text = length (filter (λ b. b == byte) text)

-- a text has more `)` than `(`
abbrev pub has_more_closed : List Code → Bool
has_more_closed text = nat_lt (count_of left_parenthesis text) (count_of right_parenthesis text)

-- the last code is cut from a text: one that no literal ends with, or a `)` where there are more of them than `(` (GFM 6.9)
abbrev pub is_cut : Code → List Code → Bool
is_cut code before = is_trailing code || ((code == right_parenthesis) && has_more_closed (code ∷ before))

-- how many codes of a text, backwards, what looks like a character reference has before its `;`
abbrev pub name_size : List Code → ℕ
name_size backwards =
    let size = prefix_len is_letter_or_digit backwards in
    if nat_le 1 size && begins_with (codes "&") (drop size backwards) then size + 1 else 0

-- what is cut with this code besides: before a `;` what looks like a character reference (GFM 6.9)
abbrev pub cut_more : Code → List Code → ℕ
cut_more code before = if code == semicolon then name_size before else 0

-- a text backwards without what is cut from its end, where so many codes are cut already
abbrev pub without_tail : ℕ → List Code → List Code
without_tail k [] = []
without_tail zero (c ∷ before) = if is_cut c before then without_tail (cut_more c before) before else c ∷ before
without_tail (suc k) (c ∷ before) = without_tail k before

-- what a literal has after its start (GFM 6.9)
abbrev pub literal_name : List Code → List Code
literal_name after = reverse (without_tail 0 (reverse (literal_run after)))

-- ---- its domain

-- the domain that comes first, as many characters as are neither whitespace nor punctuation, or `-`, `.` or `_`, where the kind of the first is given (GFM 6.9)
abbrev pub domain : Kind → List InlineCode → List Code
domain kind [] = []
domain kind (c ∷ cs) =
    if is_continuation c.code || (is_other kind || is_among (codes "-._") c.code) then c.code ∷ domain c.after cs else []

-- `_` stands in one of the last parts of a text between its dots, so many, given backwards
abbrev pub low_line_in : ℕ → List Code → Bool
low_line_in zero backwards = false
low_line_in (suc n) [] = false
low_line_in (suc n) (c ∷ cs) =
    if c == underscore then true
    else (if c == dot then low_line_in n cs else low_line_in (suc n) cs)

-- `_` stands in one of the last two parts (GFM 6.9)
abbrev pub has_low_line : List Code → Bool
has_low_line text = low_line_in 2 (reverse text)

-- ---- the leaf

-- a literal of this start and this name, the code before which is given; a `www.` at its domain's start holds no `_`, so that it needn't be looked at (GFM 6.9)
abbrev pub named_literal : LiteralStart → List InlineCode → InlineCode → List Code → Option Found
named_literal start content last name =
    let after = drop start.size content in
    if begins_name last.after after && not (has_low_line (domain last.after (take (length name) after)))
    then Some (leaf (Literal start.kind (take start.size (codes_of content) ++ name) ∷ []) (start.size + length name))
    else None

-- a literal, given what it begins with (GFM 6.9)
abbrev pub literal_after : InlineCode → List InlineCode → Option LiteralStart → Option Found
literal_after c cs None = None
literal_after c cs (Some start) =
    named_literal start (c ∷ cs) (slice_index_or (c ∷ cs) (start.size - 1) c) (literal_name (drop start.size (codes_of (c ∷ cs))))

-- a literal that is no email address (GFM 6.9)
abbrev pub literal_at : Constructs → List InlineCode → Option Found
literal_at on [] = None
literal_at on (c ∷ cs) =
    if on.gfm_autolink_literal then literal_after c cs (literal_start_at c.previous (codes_of (c ∷ cs))) else None

-- ---- email addresses in a run of text

-- a text without its last codes, so many
abbrev pub without_last : ℕ → List ℕ → List ℕ
without_last n text = take (length text - n) text

abbrev pub ends_with : List ℕ → List ℕ → Bool
ends_with end text = bytes_eq end (drop (length text - length end) text)

-- the last code of a text is a letter or a digit
abbrev pub ends_with_letter_or_digit : List ℕ → Bool
ends_with_letter_or_digit text = is_letter_or_digit (slice_index text (length text - 1))

-- a byte before the `@` (GFM 6.9)
abbrev pub is_user_byte : ℕ → Bool
is_user_byte code = is_letter_or_digit code || is_among (codes "+-._") code

-- how many codes right before an `@` belong to an address: none after a `/` (GFM 6.9)
abbrev pub user_size : List ℕ → ℕ
user_size before =
    let size = suffix_len is_user_byte before in
    if ends_with (codes "/") (without_last size before) then 0 else size

-- a text ends with a protocol, and no letter or digit stands before that (GFM 6.9)
abbrev pub ends_with_protocol : List ℕ → List ℕ → Bool
ends_with_protocol protocol text = ends_with protocol text && not (ends_with_letter_or_digit (without_last (length protocol) text))

-- how many codes the protocol has that a text ends with (GFM 6.9)
abbrev pub protocol_size : List ℕ → ℕ
protocol_size text =
    if ends_with_protocol (codes "mailto:") text then 7
    else (if ends_with_protocol (codes "xmpp:") text then 5 else 0)

abbrev pub begins_with_letter_or_digit : List ℕ → Bool
begins_with_letter_or_digit [] = false
begins_with_letter_or_digit (c ∷ cs) = is_letter_or_digit c

-- a code after the `@`: a letter, a digit, `-`, `_`, a dot before a letter or digit, and after `xmpp:` a `/` (GFM 6.9)
abbrev pub is_host_code : Bool → ℕ → List ℕ → Bool
is_host_code is_xmpp code after =
    is_letter_or_digit code
    || (is_among (codes "-_") code || (((code == dot) && begins_with_letter_or_digit after) || (is_xmpp && (code == slash))))

-- how many of them come first
abbrev pub host_size : Bool → List ℕ → ℕ
host_size is_xmpp [] = 0
host_size is_xmpp (c ∷ cs) = if is_host_code is_xmpp c cs then 1 + host_size is_xmpp cs else 0

-- with a dot, and a letter at the end (GFM 6.9)
abbrev pub is_host : List ℕ → Bool
is_host text = list_any (λ c. c == dot) text && is_letter (slice_index text (length text - 1))

-- an email address around an `@`: its kind, and how many codes it has before and after that
pub record Address : Type 0 where
  pub kind : LiteralKind
  pub before : ℕ
  pub after : ℕ

abbrev pub address : LiteralKind → ℕ → ℕ → Address
address kind before after = record { kind = kind; before = before; after = after }

-- an address of a user, a protocol and a host of so many codes; without a protocol it is an email address
abbrev pub address_of : ℕ → ℕ → ℕ → Address
address_of user protocol host = address (if protocol == 0 then Email else Protocol) (user + protocol) host

-- an address with a user and a protocol of so many codes, before this text
abbrev pub address_with : ℕ → ℕ → List ℕ → Option Address
address_with user protocol after =
    let host = host_size (protocol == 5) after in
    if nat_le 1 user && is_host (take host after) then Some (address_of user protocol host) else None

-- the email address around an `@` between these texts (GFM 6.9)
abbrev pub address_at : List ℕ → List ℕ → Option Address
address_at before after =
    let user = user_size before in
    address_with user (protocol_size (without_last user before)) after

-- the text before an address, and the address
abbrev pub address_parts : List ℕ → List ℕ → Address → List InlineLeaf
address_parts before after found =
    map Data (without_last found.before before)
    ++ Literal found.kind (drop (length before - found.before) before ++ at_sign ∷ take found.after after) ∷ []

-- the parts of a run of text from an `@` on
abbrev pub address_or_text : List ℕ → List ℕ → Option Address → (ℕ → List ℕ → List InlineLeaf) → List InlineLeaf
address_or_text before after None rest = rest 0 (before ++ at_sign ∷ [])
address_or_text before after (Some found) rest = address_parts before after found ++ rest found.after []

-- the parts of a run of text, given the text since the last address, and how many codes of that come next (GFM 6.9)
abbrev pub parts_from : ℕ → List ℕ → List ℕ → List InlineLeaf
parts_from k before [] = map Data before
parts_from zero before (c ∷ cs) =
    if c == at_sign then address_or_text before cs (address_at before cs) (λ more next. parts_from more next cs)
    else parts_from 0 (before ++ c ∷ []) cs
parts_from (suc k) before (c ∷ cs) = parts_from k before cs

-- a run of text with the email addresses in it, from left to right (GFM 6.9)
abbrev pub with_addresses : List ℕ → List InlineLeaf
with_addresses run = parts_from 0 [] run

-- ---- the inline structure of a content, once its spans are paired

-- parts before others
abbrev pub parts_before : List Inline → Inlines → Inlines
parts_before [] others = others
parts_before (i ∷ is) others = Cons i (parts_before is others)

-- a leaf where no literal may stand: what it is written with
abbrev pub leaf_without : InlineLeaf → List InlineLeaf
leaf_without (Literal kind text) = map Data text
leaf_without other = other ∷ []

abbrev mutual
  -- the text of a link holds no link: a literal in it is text (CommonMark 6.3)
  pub without_literals : Inlines → Inlines
  without_literals Nil = Nil
  without_literals (Cons i is) = parts_before (part_without i) (without_literals is)

  pub part_without : Inline → List Inline
  part_without (Leaf part) = map Leaf (leaf_without part)
  part_without (Span kind kids) = Span kind (without_literals kids) ∷ []
  part_without (Linked kind target kids) = Linked kind target (without_literals kids) ∷ []
  part_without (Call label) = Call label ∷ []

-- a run of text with its email addresses, before others
abbrev pub addresses_before : List ℕ → Inlines → Inlines
addresses_before run others = parts_before (map Leaf (with_addresses run)) others

abbrev mutual
  -- email addresses in the longest runs of text outside links, where a run stands before (GFM 6.9)
  pub with_literals : List ℕ → Inlines → Inlines
  with_literals run Nil = addresses_before run Nil
  with_literals run (Cons (Leaf (Data b)) is) = with_literals (run ++ b ∷ []) is
  with_literals run (Cons i is) = addresses_before run (Cons (part_with i) (with_literals [] is))

  pub part_with : Inline → Inline
  part_with (Leaf part) = Leaf part
  part_with (Span kind kids) = Span kind (with_literals [] kids)
  part_with (Linked Link target kids) = Linked Link target (without_literals kids)
  part_with (Linked Image target kids) = Linked Image target (with_literals [] kids)
  part_with (Call label) = Call label

-- the inline structure with its literals, where they are on (GFM 6.9)
abbrev pub linked_literals : Constructs → Inlines → Inlines
linked_literals on kids = if on.gfm_autolink_literal then with_literals [] kids else kids
