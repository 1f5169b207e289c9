-- The options of a TCP connection, as the system's headers name and number them.
use Rattle.std.specs.Prelude.{ℕ, List, ℤ, pos, codes}
use Rattle.link_options.specs.declared.setting.TcpOption.{TcpOption}
use Rattle.link_options.specs.declared.setting.TcpOption.TheVariants as option

abbrev pub name_of : TcpOption → List ℕ
name_of option.Keepalive = codes "SO_KEEPALIVE"
name_of option.KeepaliveIdle = codes "TCP_KEEPIDLE"
name_of option.KeepaliveInterval = codes "TCP_KEEPINTVL"
name_of option.KeepaliveProbes = codes "TCP_KEEPCNT"
name_of option.UserTimeout = codes "TCP_USER_TIMEOUT"

-- the numbers of the level and of the option: SO_KEEPALIVE is one of any socket, the others are of TCP
abbrev pub numbers_of : TcpOption → ℤ × ℤ
numbers_of option.Keepalive = (pos 1, pos 9)
numbers_of option.KeepaliveIdle = (pos 6, pos 4)
numbers_of option.KeepaliveInterval = (pos 6, pos 5)
numbers_of option.KeepaliveProbes = (pos 6, pos 6)
numbers_of option.UserTimeout = (pos 6, pos 18)
