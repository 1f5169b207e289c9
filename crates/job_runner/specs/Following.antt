-- What an order means, and what it is to follow one.
use Rattle.std.specs.Prelude.{◌≡◌, ℕ, ◌==◌, nat_lt, if◌then◌else◌, List, length, Option, Some, None, Result, Err, OnOk}
use Rattle.gear_packets.specs.Request.{Packet}
use Rattle.worker_state.specs.OrderParts.{OrderParts}
use Rattle.worker_state.specs.declared.order.What.{What}
use Rattle.worker_state.specs.declared.order.What.TheVariants as what
use Rattle.job_runner.specs.declared.end.EndCause.{EndCause}
use Rattle.job_runner.specs.declared.end.EndCause.TheVariants.{Stopped}
use Rattle.job_runner.specs.declared.order.Phase.{Phase}
use Rattle.job_runner.specs.declared.order.Phase.TheVariants.{Waiting, Idle}
use Rattle.job_runner.specs.declared.worker.Worker.{Worker}
use Rattle.job_runner.specs.Book.{Ledger, after_order}
use Rattle.job_runner.specs.Course.{IsStop, Sends, obeying, name_of}

-- the function that a task names, of so many functions
abbrev pub function_of : ℕ → What → Option ℕ
function_of count what.Idle = None
function_of count (what.Work f) = if nat_lt f count then Some f else None
function_of count what.Stop = None

-- The function that an order means for a worker of this generation, of so many. An order of another generation means none.
abbrev pub meant_by : ℕ → ℕ → OrderParts → Option ℕ
meant_by generation count order = if order.generation == generation then function_of count order.what else None

-- the function that an order means for a worker in its session
abbrev pub meant_for : Worker → OrderParts → Option ℕ
meant_for worker order = meant_by worker.pass.now.generation (length worker.place.settings.now.functions) order

-- the packets that lead a worker from the function that it has registered to the one that an order means, and ask for a job of it
abbrev pub leading : Worker → Option ℕ → OrderParts → List Packet
leading worker from order =
    obeying (name_of worker.place.settings.now.functions from) (name_of worker.place.settings.now.functions (meant_for worker order))

-- what a session waits for once it has followed an order: with a function it has asked for a job
abbrev pub phase_with : Option ℕ → Phase
phase_with None = Idle
phase_with (Some f) = Waiting

-- what an order bears on: the function registered, what is on the link, and what the port did
pub record Scene : Type 0 where
  pub registered : Option ℕ
  pub written : Option (List ℕ)
  pub book : Ledger

abbrev pub scene : Option ℕ → Option (List ℕ) → Ledger → Scene
scene registered written book = record { registered = registered; written = written; book = book }

-- An order is followed. A stop for this worker ends the session with nothing written; else the packets that lead to the order's function
-- are sent, and no others, and that function is registered.
pub data Obeys (worker : Worker) (order : OrderParts) (old new : Scene) (result : Result (Unit {0}) EndCause) : Type 0 where
  stops : IsStop worker.pass.now.generation order → result ≡ Err Stopped → new.written ≡ old.written → Obeys worker order old new result
  goes : (IsStop worker.pass.now.generation order → ⊥)
      → Sends old.written new.written (leading worker old.registered order) result
      → OnOk result (new.registered ≡ meant_for worker order) → Obeys worker order old new result

-- one order was read, and followed
pub record Follows (worker : Worker) (old new : Scene) (result : Result (Unit {0}) EndCause) : Type 0 where
  pub order : OrderParts
  pub read : new.book ≡ after_order old.book order
  pub obeys : Obeys worker order old new result
