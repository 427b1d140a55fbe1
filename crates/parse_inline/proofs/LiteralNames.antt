-- The name of a literal may have its bytes: the first tells the protocol (GFM 6.9).
use Rattle.std.proofs.Common.{inl, inr, ◌≡◌, ◌⊎◌, ℕ, Bool, true, ◌||◌, List, [], ◌∷◌, sym, ap, ◌∙◌, arith, slice_index}
use Rattle.std.specs.Char.{to_ascii_lowercase}
use Rattle.std.specs.Prelude.{codes, ◌==◌}
use Rattle.std.proofs.lemmas.Bool.{and_parts, eqb-true, or_cases, or_left, or_right, true≢false}
use Rattle.definition_text.specs.Bytes.{begins_with}
use Rattle.definition_inline.specs.GfmAutolinkLiteral.{begins_caselessly}
use Rattle.definition_inline.specs.Inline.{Email, Protocol, Www}
use Rattle.engine_events.specs.declared.event.Name.TheVariants as n
use Rattle.event_tokens.specs.Tokens.{begins_address, begins_link, is_token}
use Rattle.parse_strings.proofs.Characters.{with_characters}
use Rattle.parse_written.specs.Written.{is_literal}
use Rattle.parse_inline.proofs.Prelude.{IsUtf8}

-- the first byte, by what begins the bytes
link_first : (b : ℕ) (bs bytes : List ℕ) → begins_caselessly (b ∷ bs) bytes ≡ true → to_ascii_lowercase b ≡ to_ascii_lowercase (slice_index bytes 0)
link_first b bs [] is = absurd (true≢false (sym is))
link_first b bs (x ∷ xs) is =
    eqb-true (to_ascii_lowercase b) (to_ascii_lowercase x) (and_parts (to_ascii_lowercase b == to_ascii_lowercase x) _ is).0

address_first : (b : ℕ) (bs bytes : List ℕ) → begins_with (b ∷ bs) bytes ≡ true → b ≡ slice_index bytes 0
address_first b bs [] is = absurd (true≢false (sym is))
address_first b bs (x ∷ xs) is = eqb-true b x (and_parts (b == x) _ is).0

-- what begins an address or a URI
protocol_by : (P : Type 0) (bytes : List ℕ) → is_literal Protocol bytes ≡ true
    → (begins_link (codes "http://") bytes ≡ true → 104 ≡ to_ascii_lowercase (slice_index bytes 0) → P)
    → (begins_link (codes "https://") bytes ≡ true → 104 ≡ to_ascii_lowercase (slice_index bytes 0) → P)
    → (begins_address (codes "mailto:") bytes ≡ true → 109 ≡ slice_index bytes 0 → P)
    → (begins_address (codes "xmpp:") bytes ≡ true → 120 ≡ slice_index bytes 0 → P) → P
protocol_by P bytes is http https mail chat =
    let third = begins_address (codes "mailto:") bytes || begins_address (codes "xmpp:") bytes in
    elim (or_cases (begins_link (codes "http://") bytes) (begins_link (codes "https://") bytes || third) is) [
      | inl a ↦ http a (link_first 104 (codes "ttp://") bytes (and_parts (begins_caselessly (codes "http://") bytes) _ a).0)
      | inr others ↦ elim (or_cases (begins_link (codes "https://") bytes) third others) [
        | inl b ↦ https b (link_first 104 (codes "ttps://") bytes (and_parts (begins_caselessly (codes "https://") bytes) _ b).0)
        | inr more ↦ elim (or_cases (begins_address (codes "mailto:") bytes) (begins_address (codes "xmpp:") bytes) more) [
          | inl c ↦ mail c (address_first 109 (codes "ailto:") bytes (and_parts (begins_with (codes "mailto:") bytes) _ c).0)
          | inr d ↦ chat d (address_first 120 (codes "mpp:") bytes (and_parts (begins_with (codes "xmpp:") bytes) _ d).0)
        ]
      ]
    ]

-- one byte or another
abbrev pub is_either : ℕ → ℕ → ℕ → Type 0
is_either one other b = (b ≡ one) ⊎ (b ≡ other)

abbrev pub is_one : ℕ → ℕ → ℕ → Bool
is_one one other b = (b == one) || (b == other)

pub m_is : (b : ℕ) → b ≡ 109 → is_one 77 109 b ≡ true
m_is b is = ap (is_one 77 109) is

pub x_is : (b : ℕ) → b ≡ 120 → is_one 88 120 b ≡ true
x_is b is = ap (is_one 88 120) is

pub www_may : (bytes : List ℕ) → IsUtf8 bytes → is_literal Www bytes ≡ true → is_token n.GfmAutolinkLiteralWww bytes ≡ true
www_may bytes utf8 is = with_characters bytes _ utf8 is

pub email_may : (bytes : List ℕ) → IsUtf8 bytes → is_literal Email bytes ≡ true → is_token n.GfmAutolinkLiteralEmail bytes ≡ true
email_may bytes utf8 is = with_characters bytes _ utf8 is

mail_lower : (b : ℕ) → is_either 77 109 b → to_ascii_lowercase b ≡ 109
mail_lower b (inl is) = ap to_ascii_lowercase is
mail_lower b (inr is) = ap to_ascii_lowercase is

pub mailto_may : (bytes : List ℕ) → IsUtf8 bytes → is_either 77 109 (slice_index bytes 0) → is_literal Protocol bytes ≡ true
    → is_token n.GfmAutolinkLiteralMailto bytes ≡ true
mailto_may bytes utf8 m is =
    let lower = mail_lower (slice_index bytes 0) m in
    protocol_by (is_token n.GfmAutolinkLiteralMailto bytes ≡ true) bytes is (λ _ first. absurd (let no : 104 ≡ 109 = first ∙ lower in omega (arith, no)))
    (λ _ first. absurd (let no : 104 ≡ 109 = first ∙ lower in omega (arith, no)))
    (λ a _. with_characters bytes _ utf8 a)
    (λ _ first. absurd (let no : 120 ≡ 109 = ap to_ascii_lowercase first ∙ lower in omega (arith, no)))

chat_lower : (b : ℕ) → is_either 88 120 b → to_ascii_lowercase b ≡ 120
chat_lower b (inl is) = ap to_ascii_lowercase is
chat_lower b (inr is) = ap to_ascii_lowercase is

pub xmpp_may : (bytes : List ℕ) → IsUtf8 bytes → is_either 88 120 (slice_index bytes 0) → is_literal Protocol bytes ≡ true
    → is_token n.GfmAutolinkLiteralXmpp bytes ≡ true
xmpp_may bytes utf8 x is =
    let lower = chat_lower (slice_index bytes 0) x in
    protocol_by (is_token n.GfmAutolinkLiteralXmpp bytes ≡ true) bytes is (λ _ first. absurd (let no : 104 ≡ 120 = first ∙ lower in omega (arith, no)))
    (λ _ first. absurd (let no : 104 ≡ 120 = first ∙ lower in omega (arith, no)))
    (λ _ first. absurd (let no : 109 ≡ 120 = ap to_ascii_lowercase first ∙ lower in omega (arith, no)))
    (λ a _. with_characters bytes _ utf8 a)

pub protocol_may : (bytes : List ℕ) → IsUtf8 bytes → (slice_index bytes 0 ≡ 109 → ⊥) → (slice_index bytes 0 ≡ 120 → ⊥) → is_literal Protocol bytes ≡ true
    → is_token n.GfmAutolinkLiteralProtocol bytes ≡ true
protocol_may bytes utf8 no_mail no_chat is =
    let http = begins_link (codes "http://") bytes in
    let https = begins_link (codes "https://") bytes in
    protocol_by (is_token n.GfmAutolinkLiteralProtocol bytes ≡ true) bytes is
    (λ a _. with_characters bytes _ utf8 (or_left http https a))
    (λ b _. with_characters bytes _ utf8 (or_right http https b))
    (λ _ first. absurd (no_mail (sym first)))
    (λ _ first. absurd (no_chat (sym first)))
