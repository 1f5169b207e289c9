-- What a service manager is told, byte for byte.
use Rattle.std.specs.Prelude.{ℕ, ◌==◌, Bool, List, ◌++◌, codes}
use Rattle.std.specs.List.{list_any}
use Rattle.service_manager.specs.declared.notice.Notice.{Notice}
use Rattle.service_manager.specs.declared.notice.Notice.TheVariants.{Ready, Alive, Stopping}

abbrev pub text_of : Notice → List ℕ
text_of Ready = codes "READY=1"
text_of Alive = codes "WATCHDOG=1"
text_of Stopping = codes "STOPPING=1"

abbrev pub status_text : List ℕ → List ℕ
status_text status = codes "STATUS=" ++ status

-- The service manager reads another message after a line feed.
abbrev pub has_line_feed : List ℕ → Bool
has_line_feed text = list_any (λ b. b == 10) text
