use Rattle.std.proofs.Common.{◌≡◌, ◌∙◌, true, codes, ap, ap₂}
use Rattle.clap.specs.Words.{App, app_of, new_app, with_rule}
use Rattle.clap.specs.Simple.{Shape, app_of_fields, on_top}
use Rattle.command_words.specs.Command.{command}
use Rattle.command_words.proofs.command.the_command.Goals as goal

abbrev no_help : App → App
no_help = on_top (λ (s : Shape). record s { disable_help_flag = true })

abbrev no_version : App → App
no_version = on_top (λ (s : Shape). record s { disable_version_flag = true })

pub returns : goal.returns
unfolding command
returns c =
    let help : app_of c.disable_help_flag.result ≡ no_help (new_app (codes "adiar")) = ap app_of_fields c.disable_help_flag.ensures ∙ ap no_help c.new.ensures.app in
    let version : app_of c.disable_version_flag.result ≡ no_version (no_help (new_app (codes "adiar"))) = ap app_of_fields c.disable_version_flag.ensures ∙ ap no_version help in
    let action = c.in_ok-arg.ensures.shape c.place.ensures.local ∙ ap₂ with_rule version c.place.ensures.rule in
    let folder = c.in_ok-arg-2.ensures.shape c.place-2.ensures.local ∙ ap₂ with_rule action c.place-2.ensures.rule in
    let script = c.in_ok-arg-3.ensures.shape c.option.ensures.local ∙ ap₂ with_rule folder c.option.ensures.rule in
    let netlist = c.in_ok-arg-4.ensures.shape c.option-2.ensures.local ∙ ap₂ with_rule script c.option-2.ensures.rule in
    let budget = c.in_ok-arg-5.ensures.shape c.option-3.ensures.local ∙ ap₂ with_rule netlist c.option-3.ensures.rule in
    c.in_ok-command.ensures.shape c.option-4.ensures.local ∙ ap₂ with_rule budget c.option-4.ensures.rule
