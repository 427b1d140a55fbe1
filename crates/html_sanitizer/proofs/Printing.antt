-- Attributes as they are printed.
use Rattle.std.proofs.Common.{◌≡◌, ℕ, Bool, List, [], ◌∷◌, ◌++◌, Option, None, Some, codes, map, refl, sym, ap, ◌∙◌, append_assoc}
use Rattle.std.proofs.Common.{Bor, arith}
use Rattle.std.specs.List.{flat_map}
use Rattle.std.specs.Option.{option_map, option_copied}
use Rattle.std.proofs.lemmas.Bool.{ne_eqb}
use Rattle.std.proofs.lemmas.Grind.{flat_map-append}
use Rattle.std.proofs.lemmas.List.{append-nil}
use Rattle.markdown_compile_options.specs.declared.configuration.CompileOptions.{CompileOptions}
use Rattle.definition_text.specs.Encode.{encode}
use Rattle.definition_inline.specs.CharacterReference.{Names}
use Rattle.definition_inline.specs.Decoded.{decode}
use Rattle.definition_page.specs.InlinePieces.{permitted_url}
use Rattle.definition_page.specs.Tags.{attribute, attribute_bytes}
use Rattle.definition_html.specs.Listing.{listed_attributes}
use Rattle.definition_html.specs.Attributes.{Written, code_bytes, decoded, first_of, if_written, url_bytes, url_attributes, kept}
use Rattle.html_sanitizer.specs.Attributes.{Attribute, read_attribute, named_attributes, first_value}
use Rattle.html_sanitizer.specs.Urls.{url_if_written}
use Rattle.html_sanitizer.proofs.Codes.{own_bytes}
use Rattle.html_sanitizer.proofs.Reading.{first_read}
use Rattle.html_sanitizer.proofs.Tokens.{AreBytes}

-- bytes are codes of their own
pub bytes_own : (bs : List ℕ) → AreBytes bs → code_bytes bs ≡ bs
bytes_own [] h = refl
bytes_own (b ∷ bs) h = own_bytes b bs (ne_eqb b 257 (λ e. omega (arith, e, h.0))) ∙ ap (λ x. b ∷ x) (bytes_own bs h.1)

-- a value as it was decoded
pub decoded_own : (names : Names) (value text : List ℕ) → text ≡ decode names value → AreBytes text → decoded names value ≡ text
decoded_own names value text e are = ap code_bytes (sym e) ∙ bytes_own text are

-- an attribute, part by part
regrouped : (o s n e t q : List ℕ) → ((((o ++ s) ++ n) ++ e) ++ t) ++ q ≡ o ++ ((((s ++ n) ++ e) ++ (t ++ [])) ++ q)
regrouped o s n e t q = simp append_assoc

pub attribute_printed : (out started valued all name text : List ℕ) → started ≡ ((out ++ codes " ") ++ name) ++ codes "=\"" → valued ≡ started ++ encode text
    → all ≡ valued ++ codes "\"" → all ≡ out ++ attribute_bytes (attribute name text)
attribute_printed out started valued all name text a b c =
    c ∙ ap (λ x. x ++ codes "\"") (b ∙ ap (λ x. x ++ encode text) a) ∙ regrouped out (codes " ") name (codes "=\"") (encode text) (codes "\"")

-- an attribute that is written, and one that isn't
pub if_some : (names : Names) (name : List ℕ) (items : List Attribute) (found : Option (Bor (List ℕ))) (value : Bor (List ℕ))
    → option_copied found ≡ first_value name items → found ≡ Some value
    → flat_map attribute_bytes (if_written name (first_of name (map (read_attribute names) items))) ≡ attribute_bytes (attribute name (decoded names value.now))
if_some names name items found value e is =
    ap (λ o. flat_map attribute_bytes (if_written name o)) (first_read names name items ∙ ap (option_map (decoded names)) (sym e ∙ ap option_copied is))
    ∙ append-nil (attribute_bytes (attribute name (decoded names value.now)))

pub if_none : (names : Names) (name : List ℕ) (items : List Attribute) (found : Option (Bor (List ℕ)))
    → option_copied found ≡ first_value name items → found ≡ None → first_of name (map (read_attribute names) items) ≡ None
if_none names name items found e is = first_read names name items ∙ ap (option_map (decoded names)) (sym e ∙ ap option_copied is)

pub if_found : (names : Names) (name : List ℕ) (items : List Attribute) (found : Option (Bor (List ℕ))) (value : Bor (List ℕ))
    → option_copied found ≡ first_value name items → found ≡ Some value → first_of name (map (read_attribute names) items) ≡ Some (decoded names value.now)
if_found names name items found value e is = first_read names name items ∙ ap (option_map (decoded names)) (sym e ∙ ap option_copied is)

-- an attribute with a URL
pub url_some : (all : Bool) (protocols : List (List ℕ)) (name value : List ℕ) (found : Option (List ℕ)) → found ≡ Some value
    → flat_map attribute_bytes (url_if_written all protocols name found)
    ≡ attribute_bytes (attribute name (permitted_url all protocols (url_bytes value)))
url_some all protocols name value found e =
    ap (λ o. flat_map attribute_bytes (url_if_written all protocols name o)) e
    ∙ append-nil (attribute_bytes (attribute name (permitted_url all protocols (url_bytes value))))

pub url_none : (all : Bool) (protocols : List (List ℕ)) (name : List ℕ) (found : Option (List ℕ)) → found ≡ None
    → flat_map attribute_bytes (url_if_written all protocols name found) ≡ []
url_none all protocols name found e = ap (λ o. flat_map attribute_bytes (url_if_written all protocols name o)) e

-- both kinds of attributes
pub kept_printed : (options : CompileOptions) (name : List ℕ) (ws : List Written)
    → flat_map attribute_bytes (kept options name ws)
    ≡ flat_map attribute_bytes (url_attributes options name ws) ++ flat_map attribute_bytes (named_attributes listed_attributes ws)
kept_printed options name ws = flat_map-append attribute_bytes (url_attributes options name ws) (named_attributes listed_attributes ws)

-- one name more
pub listed_step : (name : List ℕ) (names : List (List ℕ)) (ws : List Written)
    → flat_map attribute_bytes (named_attributes (name ∷ names) ws)
    ≡ flat_map attribute_bytes (if_written name (first_of name ws)) ++ flat_map attribute_bytes (named_attributes names ws)
listed_step name names ws = flat_map-append attribute_bytes (if_written name (first_of name ws)) (named_attributes names ws)
