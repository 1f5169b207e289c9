use Rattle.service_settings.proofs.Sendable.{sendable}
use Rattle.service_settings.proofs.service_url.ServiceUrl.read.Goals as goal

pub invariant_of-result : goal.invariant_of-result
invariant_of-result c =
    rw (c.in_ok-host.ensures, c.in_ok-path.ensures.ok)
    (sendable c.in-Some.parts.authority.now c.in-Some.parts.path.now c.in-Some.ensures.authority c.in-Some.ensures.path)
