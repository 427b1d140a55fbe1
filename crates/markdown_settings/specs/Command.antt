-- The command line: markdown [--gfm] [--mark] [--math] [--frontmatter] [--heading-ids] [--heading-id-prefix TEXT] [--link-base URL] [--image-base URL]
-- [--link-rel TEXT] [--lazy-images] [--listed-html] [--dangerous] [--plain] [--references PATH] [--help] [--version] [FILE].
use Rattle.std.specs.Prelude.{ℕ, true, List, Some, codes}
use Rattle.clap.specs.Words.{App, Rule, new_app, new_rule, with_rule}
use Rattle.clap.specs.Simple.{on_top}
use Rattle.clap.specs.declared.builder.action.ArgAction.TheVariants.{SetTrue}

-- a flag without a value
abbrev pub flag : List ℕ → Rule
flag name = record (new_rule name) { long = Some name; action = Some SetTrue }

-- a flag with a value
abbrev pub valued : List ℕ → Rule
valued name = record (new_rule name) { long = Some name; value_names = 1 }

-- a word that is no flag
abbrev pub file_rule : Rule
file_rule = record (new_rule (codes "file")) { value_names = 1 }

-- words without the program's name, and a version
abbrev pub bare : App
bare = on_top (λ s. record s { no_binary_name = true; has_version = true }) (new_app (codes "markdown"))

-- the flags that turn constructs on
abbrev pub with_constructs : App → App
with_constructs app =
    with_rule (with_rule (with_rule (with_rule app (flag (codes "gfm"))) (flag (codes "mark"))) (flag (codes "math"))) (flag (codes "frontmatter"))

-- those of what is printed for headings, links and images
abbrev pub with_attributes : App → App
with_attributes app =
    with_rule (with_rule (with_rule (with_rule (with_rule (with_rule app (flag (codes "heading-ids"))) (valued (codes "heading-id-prefix")))
    (valued (codes "link-base"))) (valued (codes "image-base"))) (valued (codes "link-rel"))) (flag (codes "lazy-images"))

abbrev pub markdown_command : App
markdown_command =
    with_rule (with_rule (with_rule (with_rule (with_rule (with_attributes (with_constructs bare)) (flag (codes "listed-html")))
    (flag (codes "dangerous"))) (flag (codes "plain"))) (valued (codes "references"))) file_rule
