-- What the answers on a content stand for.
use Rattle.std.specs.Prelude.{◌≡◌, ◌<◌, ◌≤◌, ◌+◌, ℕ, Bool, List, [], ◌∷◌, Option, None, Some, drop, length, slice_index, take}
use Rattle.std.specs.Option.{option_map}
use Rattle.definition_text.specs.Ascii.{carriage_return, greater_than}
use Rattle.definition_text.specs.Content.{content_codes}
use Rattle.definition_inline.specs.Autolink.{is_scheme_byte, is_uri_byte, is_email_byte, is_domain_byte}
use Rattle.definition_inline.specs.Inline as inline
use Rattle.inline_constructs.specs.declared.autolink.Address.{Address}
use Rattle.inline_constructs.specs.declared.byte_class.ByteClass.{ByteClass}
use Rattle.inline_constructs.specs.declared.byte_class.ByteClass.TheVariants.{Scheme, Uri, Email, Domain}

-- so many of a byte at a place
pub record IsRun (marker : ℕ) (bytes : List ℕ) (at size : ℕ) : Type 0 where
  pub within : at + size ≤ length bytes
  pub markers : (k : ℕ) → k < size → slice_index bytes (at + k) ≡ marker

-- the bytes of a class
abbrev pub is_of : ByteClass → ℕ → Bool
is_of Scheme b = is_scheme_byte b
is_of Uri b = is_uri_byte b
is_of Email b = is_email_byte b
is_of Domain b = is_domain_byte b

-- the codes after the first bytes, where so many are found
abbrev pub codes_after : List ℕ → Option ℕ → Option (List ℕ)
codes_after bytes size = option_map (λ size. content_codes (drop size bytes)) size

-- the bytes of an address, before a `>`
pub record IsAddress (bytes : List ℕ) (size : ℕ) : Type 0 where
  pub within : size < length bytes
  pub plain : (k : ℕ) → k < size → slice_index bytes k ≡ carriage_return → ⊥
  pub greater : slice_index bytes size ≡ greater_than

-- what an address makes
abbrev pub address_leaf : List ℕ → Option Address → Option inline.Found
address_leaf bytes None = None
address_leaf bytes (Some found) = Some (inline.leaf (inline.Autolink found.email (take found.size bytes) ∷ []) (found.size + 2))
