use Rattle.std.proofs.Common.{List, Ok, Err, OnOk, Result, ap, codes, inl, inr, map, refl, string_bytes, subst, sym, true, ◌≡◌, ◌∙◌}
use Rattle.std.proofs.lemmas.Result.{IfOk-weaker}
use Rattle.clap.specs.Words.{App, IsAmong, Kinds, Text, fault_of, kind_of, first_of, found_of, is_simple, is_simple_and_free, matches_of, rows_of}
use Rattle.clap.specs.Words.{takes}
use Rattle.clap.proofs.OnLiterals.{clap_on_literals}
use Rattle.clap.specs.Simple.{HasMatchesOf}
use Rattle.clap.specs.declared.parser.matches.ArgMatches.{ArgMatches}
use Rattle.markdown_settings.specs.Command.{markdown_command}
use Rattle.markdown_settings.specs.Flags.{MeanRows}
use Rattle.markdown_settings.specs.Settings.{Refuses, faults_of, named_file, rows_of_words, takes_words}
use Rattle.markdown_settings.proofs.read.settings.Goals as goal

is_simple_command : is_simple markdown_command ≡ true
unfolding clap_on_literals
is_simple_command = refl

is_free_command : is_simple_and_free markdown_command ≡ true
unfolding clap_on_literals
is_free_command = refl

rows_are : (app : App) (words : List Text) (m : ArgMatches) → app ≡ markdown_command → HasMatchesOf app words m → rows_of (found_of m) ≡ rows_of_words words
unfolding rows_of_words
rows_are app words m e h = (h (ap is_simple e ∙ is_simple_command)).0 ∙ ap (λ a. matches_of a words) e

faults_are : (app : App) (words : List Text) → app ≡ markdown_command → fault_of app words ≡ faults_of words
unfolding faults_of
faults_are app words e = ap (λ a. fault_of a words) e

on_ok : {T E P : Type 0} (r : Result T E) → P → OnOk r P
on_ok (Ok x) p = p
on_ok (Err e) p = tt

pub returns-in-Ok-clause-options : goal.returns-in-Ok-clause-options
returns-in-Ok-clause-options c =
    IfOk-weaker c.settings_of.result _ _ (λ s mean. subst (λ rows. MeanRows rows s.options) (rows_are _ _ _ c.in_ok-command.ensures c.in-Ok.ensures.matches) mean)
    c.settings_of.ensures.options

pub returns-in-Ok-clause-file : goal.returns-in-Ok-clause-file
returns-in-Ok-clause-file c =
    IfOk-weaker c.settings_of.result _ _ (λ s is. is ∙ ap (λ rows. named_file (first_of (codes "file") rows)) (rows_are _ _ _ c.in_ok-command.ensures c.in-Ok.ensures.matches))
    c.settings_of.ensures.file

pub returns-in-Ok-clause-references : goal.returns-in-Ok-clause-references
returns-in-Ok-clause-references c =
    IfOk-weaker c.settings_of.result _ _ (λ s is. is ∙ ap (first_of (codes "references")) (rows_are _ _ _ c.in_ok-command.ensures c.in-Ok.ensures.matches))
    c.settings_of.ensures.references

pub returns-in-Ok-clause-faultless : goal.returns-in-Ok-clause-faultless
returns-in-Ok-clause-faultless c =
    let e = c.in_ok-command.ensures in
    on_ok c.settings_of.result (sym (faults_are _ _ e) ∙ c.in-Ok.ensures.kinds (ap is_simple_and_free e ∙ is_free_command))

pub returns-in-Err-clause-refused : goal.returns-in-Err-clause-refused
returns-in-Err-clause-refused c =
    let e = c.in_ok-command.ensures in
    let faults = faults_of (map string_bytes c.args.words.now) in
    elim (c.in-Err.ensures.kinds (ap is_simple_and_free e ∙ is_free_command)) [
      | inl memory ↦ subst (Refuses faults) (sym (c.refusal.ensures.memory memory)) tt
      | inr among ↦ c.refusal.ensures.refused faults (subst (λ (ks : Kinds). IsAmong (kind_of c.in-Err.error) ks) (faults_are _ _ e) among)
    ]

pub returns-in-Err-clause-taken : goal.returns-in-Err-clause-taken
unfolding takes_words
returns-in-Err-clause-taken c taken =
    c.refusal.ensures.memory (c.in-Err.ensures.passes (ap (λ (a : App). takes a (map string_bytes c.args.words.now)) c.in_ok-command.ensures ∙ taken))
