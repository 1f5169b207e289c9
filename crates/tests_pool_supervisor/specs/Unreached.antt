-- The calls of a dialler that reaches no server.
use Rattle.std.specs.Prelude.{◌≢◌, List, [], ◌∷◌, ◌++◌}
use Rattle.std.specs.List.{AllByRecursion}
use Rattle.byte_io.specs.Sides.{no_input, no_output}
use Rattle.pool_supervisor.specs.Dials.{DialCall, failed, opened, closed}
use Rattle.tests_pool_supervisor.specs.declared.unreached.Calls.{Calls, New, Failed', HungUp'}

-- each dial failed; what a link shows that was closed is nothing
abbrev pub calls_of : Calls → List DialCall
calls_of New = []
calls_of (Failed' shape before) = calls_of before ++ failed ∷ []
calls_of (HungUp' shape before) = calls_of before ++ closed (record { input = no_input; output = no_output }) ∷ []

-- no dial opened a link
abbrev pub OpensNone : List DialCall → Type 0
OpensNone calls = AllByRecursion (λ (call : DialCall). call ≢ opened) calls
