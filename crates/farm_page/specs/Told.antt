-- An answer to a request.
use Rattle.std.specs.Prelude.{ℕ, List, Option}
use Rattle.farm_page.specs.declared.answer.Allowed.{Allowed}
use Rattle.farm_page.specs.declared.answer.Content.{Content}
use Rattle.farm_page.specs.declared.answer.Status.{Status}

pub record Told : Type 0 where
  pub status : Status
  pub content : Content
  -- the number of the attempt that the body is of
  pub attempt : Option ℕ
  -- the methods that may be used in place of the one that was
  pub allowed : Option Allowed
  pub body : List ℕ
