-- The program's command line: the words that each command takes, and the command that they ask for.
use Rattle.std.specs.Prelude.{Bool, List, [], ◌∷◌, ◌^◌, drop, slice_get, nat_lt, is_some, false, true, codes, if◌then◌else◌, ℕ, pos}
use Rattle.std.specs.Prelude.{Option, Some, None, option_map, option_and_then, unwrap_or}
use Rattle.std.specs.Option.{option_map_or}
use Rattle.std.specs.Str.{bytes_eq}
use Rattle.std.specs.Str.Parse.{digits_value, without_leading_plus}
use Rattle.clap.specs.Lexer.{usize_max}
use Rattle.clap.specs.Walk.{Text, Row, Rule, first_of, all_of, one_of}
use Rattle.clap.specs.Kinds.{or_else}
use Rattle.clap.specs.Words.{Kinds, fault_of}
use Rattle.clap.specs.Simple.{App, matches_of, new_app, new_rule, on_top, with_rule, with_subcommand}
use Rattle.clap.specs.declared.builder.action.ArgAction.TheVariants.{Set, SetTrue, Append}
use Rattle.clap.specs.declared.builder.value_parser.ValueParser.TheVariants.{Signed}
use Rattle.clap.specs.declared.error.kind.ErrorKind.TheVariants.{MissingSubcommand, ValueValidation}
use Rattle.text_pieces.specs.Numbers.{plain_number_below}

-- a word that has to be there
abbrev pub operand : Text → Rule
operand id = record (new_rule id) { required = true; action = Some Set }

-- a word that has to be there, and to be a whole number from `least` to `most`
abbrev pub number : Text → ℕ → ℕ → Rule
number id least most = record (operand id) { parser = Some (Signed (pos least) (pos most)) }

-- a word that may be there
abbrev pub optional : Text → Rule
optional id = record (new_rule id) { action = Some Set }

-- a flag `--NAME`, which may be there
abbrev pub flag : Text → Rule
flag name = record (new_rule name) { long = Some name; action = Some SetTrue }

-- any number of words
abbrev pub operands : Text → Rule
operands id = record (new_rule id) {
  action = Some Append;
  range = Some (record { start_inclusive = 0; end_inclusive = usize_max });
}

abbrev pub settings : Text
settings = codes "SETTINGS"

abbrev pub services : Text
services = codes "SERVICES"

abbrev pub until_input : Text
until_input = codes "until-input"

abbrev pub status : Text
status = codes "STATUS"

abbrev pub lost : Text
lost = codes "LOST"

abbrev pub rounds : Text
rounds = codes "ROUNDS"

abbrev pub backlog : Text
backlog = codes "BACKLOG"

-- how many attempts to plan a run may have, at least and at most
abbrev pub least_rounds : ℕ
least_rounds = 1

abbrev pub most_rounds : ℕ
most_rounds = 65536

-- a command with these operands, in this order
abbrev pub with_rules : App → List Rule → App
with_rules app [] = app
with_rules app (rule ∷ rules) = with_rules (with_rule app rule) rules

-- `plan SETTINGS [LOST]...`
abbrev pub plan_app : App
plan_app = with_rules (new_app (codes "plan")) (operand settings ∷ operands lost ∷ [])

-- `check SETTINGS STATUS [LOST]...`
abbrev pub check_app : App
check_app = with_rules (new_app (codes "check")) (operand settings ∷ operand status ∷ operands lost ∷ [])

-- `size SETTINGS BACKLOG [LOST]...`
abbrev pub size_app : App
size_app = with_rules (new_app (codes "size")) (operand settings ∷ operand backlog ∷ operands lost ∷ [])

-- `check-size SETTINGS STATUS BACKLOG [LOST]...`
abbrev pub check_size_app : App
check_size_app =
    with_rules (new_app (codes "check-size")) (operand settings ∷ operand status ∷ operand backlog ∷ operands lost ∷ [])

-- `replay SETTINGS`
abbrev pub replay_app : App
replay_app = with_rules (new_app (codes "replay")) (operand settings ∷ [])

-- `settings SETTINGS [SERVICES]`
abbrev pub settings_app : App
settings_app = with_rules (new_app (codes "settings")) (operand settings ∷ optional services ∷ [])

-- `run SETTINGS ROUNDS`
abbrev pub run_app : App
run_app = with_rules (new_app (codes "run")) (operand settings ∷ number rounds least_rounds most_rounds ∷ [])

-- `serve SETTINGS SERVICES [--until-input]`
abbrev pub serve_app : App
serve_app = with_rules (new_app (codes "serve")) (operand settings ∷ operand services ∷ flag until_input ∷ [])

-- `drain SERVICES`
abbrev pub drain_app : App
drain_app = with_rules (new_app (codes "drain")) (operand services ∷ [])

-- a command with its texts, a size with the level that is asked for, a run with its number of attempts, and `serve` with its flag
pub data Named : Type 0 where
  plan : Text → List Text → Named
  check : Text → Text → List Text → Named
  size : Text → Option ℕ → List Text → Named
  check_size : Text → Text → Option ℕ → List Text → Named
  replay : Text → Named
  show_settings : Text → Option Text → Named
  run : Text → ℕ → Named
  serve : Text → Text → Bool → Named
  drain : Text → Named

abbrev pub lost_in : List Row → List Text
lost_in rows = unwrap_or (all_of lost rows) []

abbrev pub plan_in : List Row → Option Named
plan_in rows = option_map (λ s. plan s (lost_in rows)) (first_of settings rows)

abbrev pub check_of : List Row → Text → Option Named
check_of rows s = option_map (λ t. check s t (lost_in rows)) (first_of status rows)

abbrev pub check_in : List Row → Option Named
check_in rows = option_and_then (check_of rows) (first_of settings rows)

abbrev pub if_above_0 : ℕ → Option (Option ℕ)
if_above_0 n = if nat_lt 0 n then Some (Some n) else None

-- the level that a text says: a number from 1 to 4294967295 without leading zeros, or `-` for none
abbrev pub level_of : Text → Option (Option ℕ)
level_of text = if bytes_eq text (codes "-") then Some None else option_and_then if_above_0 (plain_number_below (2 ^ 32) text)

abbrev pub level_in : List Row → Option (Option ℕ)
level_in rows = option_and_then level_of (first_of backlog rows)

abbrev pub size_of : List Row → Text → Option Named
size_of rows s = option_map (λ level. size s level (lost_in rows)) (level_in rows)

abbrev pub size_in : List Row → Option Named
size_in rows = option_and_then (size_of rows) (first_of settings rows)

abbrev pub check_size_with : List Row → Text → Text → Option Named
check_size_with rows s t = option_map (λ level. check_size s t level (lost_in rows)) (level_in rows)

abbrev pub check_size_of : List Row → Text → Option Named
check_size_of rows s = option_and_then (check_size_with rows s) (first_of status rows)

abbrev pub check_size_in : List Row → Option Named
check_size_in rows = option_and_then (check_size_of rows) (first_of settings rows)

-- what is wrong with the words of a command that has a level: the kinds of `clap`'s first fault, and else that the level is none
abbrev pub level_faults : App → List Text → Kinds
level_faults app words =
    or_else (fault_of app words) (if is_some (level_in (matches_of app words)) then [] else ValueValidation ∷ [])

abbrev pub replay_in : List Row → Option Named
replay_in rows = option_map replay (first_of settings rows)

abbrev pub settings_in : List Row → Option Named
settings_in rows = option_map (λ s. show_settings s (first_of services rows)) (first_of settings rows)

-- the number that a text writes in decimal digits, of which a `+` may come first
abbrev pub number_in : Text → ℕ
number_in text = digits_value 10 (without_leading_plus text)

-- the rounds of a run's matches: the number of the word for them
abbrev pub rounds_in : List Row → Option ℕ
rounds_in rows = option_map number_in (one_of rounds rows)

abbrev pub run_of : List Row → Text → Option Named
run_of rows s = option_map (run s) (rounds_in rows)

abbrev pub run_in : List Row → Option Named
run_in rows = option_and_then (run_of rows) (first_of settings rows)

-- a flag is there if its value is `true`
abbrev pub is_set : Text → List Row → Bool
is_set name rows = option_map_or (λ text. bytes_eq text (codes "true")) (one_of name rows) false

abbrev pub serve_of : List Row → Text → Option Named
serve_of rows s = option_map (λ t. serve s t (is_set until_input rows)) (first_of services rows)

abbrev pub serve_in : List Row → Option Named
serve_in rows = option_and_then (serve_of rows) (first_of settings rows)

abbrev pub drain_in : List Row → Option Named
drain_in rows = option_map drain (first_of services rows)

-- the command of a name that takes no text from standard input, from its own words, of which the name is the first
abbrev pub named_without_input : Text → List Text → Option Named
named_without_input name words =
    if bytes_eq name (codes "settings") then settings_in (matches_of settings_app words)
    else (if bytes_eq name (codes "run") then run_in (matches_of run_app words)
    else (if bytes_eq name (codes "serve") then serve_in (matches_of serve_app words)
    else (if bytes_eq name (codes "drain") then drain_in (matches_of drain_app words)
    else None)))

-- the same of a command about sizes too
abbrev pub named_of_sizes : Text → List Text → Option Named
named_of_sizes name words =
    if bytes_eq name (codes "size") then size_in (matches_of size_app words)
    else (if bytes_eq name (codes "check-size") then check_size_in (matches_of check_size_app words)
    else named_without_input name words)

-- the command of a name, from its own words, of which the name is the first: each command is a command line of its own
abbrev pub command_named : Text → List Text → Option Named
command_named name words =
    if bytes_eq name (codes "plan") then plan_in (matches_of plan_app words)
    else (if bytes_eq name (codes "check") then check_in (matches_of check_app words)
    else (if bytes_eq name (codes "replay") then replay_in (matches_of replay_app words)
    else named_of_sizes name words))

-- the command that the words ask for, the first of them being the program's name and the second the command's
abbrev pub command_in : List Text → Option Named
command_in words = option_and_then (λ name. command_named name (drop 1 words)) (slice_get words 1)

-- the program without its commands
abbrev pub bare_app : App
bare_app = on_top (λ top. record top { subcommand_required = true; has_version = true }) (new_app (codes "poolman"))

-- a program with the commands about plans, about sizes, that try settings, and about a pool that runs
abbrev pub with_plans : App → App
with_plans app = with_subcommand (with_subcommand app plan_app.top) check_app.top

abbrev pub with_sizes : App → App
with_sizes app = with_subcommand (with_subcommand app size_app.top) check_size_app.top

abbrev pub with_trials : App → App
with_trials app = with_subcommand (with_subcommand app replay_app.top) settings_app.top

abbrev pub with_runs : App → App
with_runs app = with_subcommand (with_subcommand (with_subcommand app run_app.top) serve_app.top) drain_app.top

-- the command line that wants one of nine commands, each with its operands, by which words that name none are answered
abbrev pub overview_app : App
overview_app = with_runs (with_trials (with_sizes (with_plans bare_app)))

-- what is wrong with words that name no command: the kinds of `clap`'s first fault, and else that a command is missing
abbrev pub overview_faults : List Text → Kinds
overview_faults words = or_else (fault_of overview_app words) (MissingSubcommand ∷ [])

-- What is wrong with words that have this name of a command which takes no text from standard input, or of none.
abbrev pub faults_without_input : List Text → Text → Kinds
faults_without_input words name =
    if bytes_eq name (codes "settings") then fault_of settings_app (drop 1 words)
    else (if bytes_eq name (codes "run") then fault_of run_app (drop 1 words)
    else (if bytes_eq name (codes "serve") then fault_of serve_app (drop 1 words)
    else (if bytes_eq name (codes "drain") then fault_of drain_app (drop 1 words)
    else overview_faults words)))

-- The same of a command about sizes too.
abbrev pub faults_of_sizes : List Text → Text → Kinds
faults_of_sizes words name =
    if bytes_eq name (codes "size") then level_faults size_app (drop 1 words)
    else (if bytes_eq name (codes "check-size") then level_faults check_size_app (drop 1 words)
    else faults_without_input words name)

-- What is wrong with words that have this name of a command: the kinds of the first fault that `clap` finds in them from the name on,
-- and nothing if they are taken.
abbrev pub faults_as : List Text → Text → Kinds
faults_as words name =
    if bytes_eq name (codes "plan") then fault_of plan_app (drop 1 words)
    else (if bytes_eq name (codes "check") then fault_of check_app (drop 1 words)
    else (if bytes_eq name (codes "replay") then fault_of replay_app (drop 1 words)
    else faults_of_sizes words name))

-- the same, of which the first word is the program's name and the second the command's
abbrev pub faults_in : List Text → Kinds
faults_in words = option_map_or (faults_as words) (slice_get words 1) (overview_faults words)
