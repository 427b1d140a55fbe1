-- Where links lead and images are, if the options have a base or a prefix for them.
use Rattle.std.specs.Prelude.{ℕ, Bool, true, false, not, is_none, if◌then◌else◌, ◌==◌, ◌&&◌, ◌||◌, List, [], ◌∷◌, ◌++◌}
use Rattle.markdown_compile_options.specs.declared.configuration.CompileOptions.{CompileOptions}
use Rattle.definition_text.specs.Ascii.{number_sign, slash, question_mark}
use Rattle.definition_page.specs.OptionTexts.{text_or}
use Rattle.definition_page.specs.Urls.{protocol}

-- what the ids of headings begin with
abbrev pub heading_prefix : CompileOptions → List ℕ
heading_prefix options = if options.heading_ids then text_or options.heading_id_prefix [] else []

-- what stands before relative links
abbrev pub link_base : CompileOptions → List ℕ
link_base options = text_or options.link_base []

-- and before the URLs of images: the same, unless they have their own
abbrev pub image_base : CompileOptions → List ℕ
image_base options = text_or options.image_base (link_base options)

-- what begins a URL that is no relative path: `/`, `#` or `?`
abbrev pub is_rooted : ℕ → Bool
is_rooted b = (b == slash) || (b == number_sign) || (b == question_mark)

-- whether a URL is a relative path: not empty, not rooted, and without a protocol
abbrev pub is_relative : List ℕ → Bool
is_relative [] = false
is_relative (b ∷ bs) = not (is_rooted b) && is_none (protocol (b ∷ bs))

-- a URL behind a base, if it is a relative path
abbrev pub based : List ℕ → List ℕ → List ℕ
based base url = if is_relative url then base ++ url else url

-- a link to a fragment of the page leads to the heading whose id has the prefix; `#` alone stays
abbrev pub prefixed : List ℕ → List ℕ → List ℕ
prefixed prefix [] = []
prefixed prefix (a ∷ []) = a ∷ []
prefixed prefix (a ∷ b ∷ bs) = if a == number_sign then a ∷ prefix ++ b ∷ bs else a ∷ b ∷ bs

-- where a link to a URL leads
abbrev pub link_destination : CompileOptions → List ℕ → List ℕ
link_destination options url = based (link_base options) (prefixed (heading_prefix options) url)

-- where an image with a URL is
abbrev pub image_source : CompileOptions → List ℕ → List ℕ
image_source options url = based (image_base options) url
