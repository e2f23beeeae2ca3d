use Rattle.std.proofs.Common.{ap, refl, rules}
use Rattle.command_words.specs.Command.{shown_command}
use Rattle.dump_command.proofs.Asked.{runs-alone, runs-on}
use Rattle.dump_command.proofs.commands.run_command.Goals as goal

pub returns-in-On : goal.returns-in-On
returns-in-On g c = runs-on (ap shown_command c.in-On.is) c.run_query.ensures

pub returns-in-Make : goal.returns-in-Make
returns-in-Make g c = runs-alone (ap shown_command c.in-Make.is) (search rules) refl c.run_make.ensures

pub returns-in-Trial : goal.returns-in-Trial
returns-in-Trial g c = runs-alone (ap shown_command c.in-Trial.is) (search rules) refl c.run_trial.ensures
