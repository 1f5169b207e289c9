-- After how long a connection finds that its peer is gone, and what it is told for that.
use Rattle.std.specs.Prelude.{ℕ, ◌+◌, ◌*◌, List, [], ◌∷◌, Option, Some, None, unwrap_or}
use Rattle.link_options.specs.declared.limits.Keepalive.{Keepalive}
use Rattle.link_options.specs.declared.limits.LinkOptions.{LinkOptions}
use Rattle.link_options.specs.declared.limits.LinkOptions.TheVariants as link
use Rattle.link_options.specs.declared.setting.Setting.{Setting}
use Rattle.link_options.specs.declared.setting.TcpOption.{TcpOption}
use Rattle.link_options.specs.declared.setting.TcpOption.TheVariants as option

-- from the last sign of a peer to the end of the connection: the pause before the first probe, and one after each probe
abbrev pub gone_after_ms : Keepalive → ℕ
gone_after_ms keepalive = (keepalive.idle_s + keepalive.interval_s * keepalive.probes) * 1000

abbrev pub keepalive_of : LinkOptions → Keepalive
keepalive_of (link.Keepalive keepalive) = keepalive
keepalive_of (link.KeepaliveAndUserTimeout keepalive) = keepalive

abbrev pub asleep_ms : LinkOptions → ℕ
asleep_ms options = gone_after_ms (keepalive_of options)

-- by keepalive alone no time of its own
abbrev pub unacknowledged_ms : LinkOptions → Option ℕ
unacknowledged_ms (link.Keepalive keepalive) = None
unacknowledged_ms (link.KeepaliveAndUserTimeout keepalive) = Some (gone_after_ms keepalive)

abbrev pub set_to : TcpOption → ℕ → Setting
set_to option value = record { option = option; value = value }

-- all five options with their values: a user timeout of 0 is the system's own
abbrev pub settings_of : LinkOptions → List Setting
settings_of options =
    set_to option.Keepalive 1
    ∷ set_to option.KeepaliveIdle (keepalive_of options).idle_s
    ∷ set_to option.KeepaliveInterval (keepalive_of options).interval_s
    ∷ set_to option.KeepaliveProbes (keepalive_of options).probes
    ∷ set_to option.UserTimeout (unwrap_or (unacknowledged_ms options) 0)
    ∷ []
