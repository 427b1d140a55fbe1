-- What words ask for, computed from the command.
use Rattle.std.proofs.Common.{List, Option, [], ◌∷◌, None, Some, codes, false, refl, true, ◌≡◌}
use Rattle.clap.specs.Words.{Text, first_of}
use Rattle.clap.specs.declared.error.kind.ErrorKind.TheVariants.{ArgumentConflict, DisplayHelp, InvalidValue, TooManyValues, UnknownArgument}
use Rattle.clap.proofs.OnLiterals.{clap_on_literals}
use Rattle.markdown_settings.specs.declared.flags.Flags.{Flags}
use Rattle.markdown_settings.specs.Flags.{flags_in}
use Rattle.markdown_settings.specs.Settings.{faults_of, file_of, path_of, rows_of_words}

-- words without a fault ask for these flags, this file and these references
abbrev AskFor : List Text → Flags → Option Text → Option Text → Type 0
AskFor words flags file references =
    (faults_of words ≡ []) × (flags_in (rows_of_words words) ≡ flags) × (file_of words ≡ file) × (path_of words ≡ references)

abbrev none : Flags
none = record {
  gfm = false;
  mark = false;
  math = false;
  frontmatter = false;
  heading_ids = false;
  lazy_images = false;
  listed_html = false;
  dangerous = false;
  plain = false;
}

nothing : AskFor [] none None None
unfolding faults_of rows_of_words clap_on_literals
nothing = (refl, refl, refl, refl)

a_file : AskFor (codes "a.md" ∷ []) none (Some (codes "a.md")) None
unfolding faults_of rows_of_words clap_on_literals
a_file = (refl, refl, refl, refl)

a_hyphen : AskFor (codes "-" ∷ []) none None None
unfolding faults_of rows_of_words clap_on_literals
a_hyphen = (refl, refl, refl, refl)

after_two_hyphens : AskFor (codes "--" ∷ codes "--gfm" ∷ []) none (Some (codes "--gfm")) None
unfolding faults_of rows_of_words clap_on_literals
after_two_hyphens = (refl, refl, refl, refl)

extensions : AskFor (codes "--math" ∷ codes "a" ∷ codes "--frontmatter" ∷ []) (record none { math = true; frontmatter = true }) (Some (codes "a")) None
unfolding faults_of rows_of_words clap_on_literals
extensions = (refl, refl, refl, refl)

others : AskFor (codes "--gfm" ∷ codes "--mark" ∷ codes "--dangerous" ∷ codes "--plain" ∷ codes "--references" ∷ codes "b" ∷ [])
    (record none { gfm = true; mark = true; dangerous = true; plain = true }) None (Some (codes "b"))
unfolding faults_of rows_of_words clap_on_literals
others = (refl, refl, refl, refl)

attributes : AskFor (codes "--lazy-images" ∷ codes "--heading-ids" ∷ codes "a" ∷ []) (record none { heading_ids = true; lazy_images = true })
    (Some (codes "a")) None
unfolding faults_of rows_of_words clap_on_literals
attributes = (refl, refl, refl, refl)

listed : AskFor (codes "--listed-html" ∷ codes "--dangerous" ∷ []) (record none { listed_html = true; dangerous = true }) None None
unfolding faults_of rows_of_words clap_on_literals
listed = (refl, refl, refl, refl)

-- words without a fault give the options these texts: the prefix of ids, the bases of links and images, and the `rel` of links
abbrev GiveTexts : List Text → Option Text → Option Text → Option Text → Option Text → Type 0
GiveTexts words prefix base images rel =
    (faults_of words ≡ []) × (first_of (codes "heading-id-prefix") (rows_of_words words) ≡ prefix)
    × (first_of (codes "link-base") (rows_of_words words) ≡ base) × (first_of (codes "image-base") (rows_of_words words) ≡ images)
    × (first_of (codes "link-rel") (rows_of_words words) ≡ rel)

texts : GiveTexts (codes "--heading-id-prefix=a-" ∷ codes "--link-base" ∷ codes "b" ∷ codes "--image-base=" ∷ codes "--link-rel=c d" ∷ [])
    (Some (codes "a-")) (Some (codes "b")) (Some []) (Some (codes "c d"))
unfolding faults_of rows_of_words clap_on_literals
texts = (refl, refl, refl, refl, refl)

a_flag_as_text : GiveTexts (codes "--link-base=--gfm" ∷ []) None (Some (codes "--gfm")) None None
unfolding faults_of rows_of_words clap_on_literals
a_flag_as_text = (refl, refl, refl, refl, refl)

no_texts : GiveTexts (codes "--heading-ids" ∷ codes "link-rel" ∷ []) None None None None
unfolding faults_of rows_of_words clap_on_literals
no_texts = (refl, refl, refl, refl, refl)

an_attached_value : faults_of (codes "--heading-ids=a" ∷ []) ≡ TooManyValues ∷ []
unfolding faults_of clap_on_literals
an_attached_value = refl

a_value_of_a_flag : faults_of (codes "--lazy-images=" ∷ []) ≡ TooManyValues ∷ []
unfolding faults_of clap_on_literals
a_value_of_a_flag = refl

no_base : faults_of (codes "--link-base" ∷ codes "--gfm" ∷ []) ≡ InvalidValue ∷ []
unfolding faults_of clap_on_literals
no_base = refl

a_base_twice : faults_of (codes "--link-base=a" ∷ codes "--link-base=b" ∷ []) ≡ ArgumentConflict ∷ []
unfolding faults_of clap_on_literals
a_base_twice = refl

two_files : faults_of (codes "a" ∷ codes "-" ∷ []) ≡ UnknownArgument ∷ []
unfolding faults_of clap_on_literals
two_files = refl

a_flag_twice : faults_of (codes "--math" ∷ codes "--math" ∷ []) ≡ ArgumentConflict ∷ []
unfolding faults_of clap_on_literals
a_flag_twice = refl

an_unknown_flag : faults_of (codes "--front" ∷ []) ≡ UnknownArgument ∷ []
unfolding faults_of clap_on_literals
an_unknown_flag = refl

no_path : faults_of (codes "--references" ∷ []) ≡ InvalidValue ∷ []
unfolding faults_of clap_on_literals
no_path = refl

help_after_a_file : faults_of (codes "a" ∷ codes "--help" ∷ []) ≡ DisplayHelp ∷ []
unfolding faults_of clap_on_literals
help_after_a_file = refl
