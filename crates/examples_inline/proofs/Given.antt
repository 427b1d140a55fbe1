-- Texts of the options.
use Rattle.std.specs.Prelude.{◌≡◌, ◌<◌, ◌^◌, ℕ, true, List, Option, Some, String, codes, length}
use Rattle.std.specs.Str.{is_utf8}
use Rattle.std.proofs.Common.{Global, refl, le_refl}
use Rattle.std.proofs.lemmas.Str.{IsUtf8-from_is_utf8}
use Rattle.markdown_compile_options.specs.declared.configuration.CompileOptions.{CompileOptions}
use Rattle.markdown_compile_options.specs.declared.configuration.Options.{Options}
use Rattle.markdown_compile_options.specs.Defaults.{default_options}
use Rattle.examples_inline.proofs.Computing.{pages}
use denote.RawPtr.{null_ptr}

-- default options of reading, with these of printing
abbrev pub with_compile : CompileOptions → Options
with_compile compile = record default_options { compile = compile }

-- a text of the options, with any allocator
abbrev pub given : Global → (text : List ℕ) → length text < 2 ^ 63 → is_utf8 text ≡ true → Option (String Global)
given alloc text small is =
    Some (record {
      bytes = record {
        ptr = null_ptr;
        len = length text;
        cap = length text;
        alloc = alloc;
        items = text;
        ok = (refl, le_refl (length text));
        small = small;
      };
      ok = ∣ IsUtf8-from_is_utf8 text is ∣₁;
    })

pub prefix_is_text : is_utf8 (codes "x-") ≡ true
unfolding pages
prefix_is_text = refl

pub marks_are_text : is_utf8 (codes "\"<&") ≡ true
unfolding pages
marks_are_text = refl

pub base_is_text : is_utf8 (codes "https://x.y/r/") ≡ true
unfolding pages
base_is_text = refl

pub image_base_is_text : is_utf8 (codes "https://x.y/raw/") ≡ true
unfolding pages
image_base_is_text = refl

pub script_is_text : is_utf8 (codes "javascript:") ≡ true
unfolding pages
script_is_text = refl

pub rel_is_text : is_utf8 (codes "nofollow noopener") ≡ true
unfolding pages
rel_is_text = refl
