-- The forms by how many words there are.
use Rattle.std.proofs.Common.{◌≡◌, ◌≢◌, ℕ, List, [], ◌∷◌, None, map, length, refl}
use Rattle.pool_settings.specs.Settings.{Settings}
use Rattle.pool_commands.specs.Grammar.{begin_in, expire_in, grab_in, lose_in, report_in}

pub no_grab : {X : Type 0} (f : X → List ℕ) (p : Settings) (args : List X) → length args ≢ 4 → None ≡ grab_in p (map f args)
no_grab f p [] other = refl
no_grab f p (a ∷ []) other = refl
no_grab f p (a ∷ b ∷ []) other = refl
no_grab f p (a ∷ b ∷ c ∷ []) other = refl
no_grab f p (a ∷ b ∷ c ∷ d ∷ []) other = absurd (other refl)
no_grab f p (a ∷ b ∷ c ∷ d ∷ e ∷ more) other = refl

pub no_begin : {X : Type 0} (f : X → List ℕ) (p : Settings) (args : List X) → length args ≢ 2 → None ≡ begin_in p (map f args)
no_begin f p [] other = refl
no_begin f p (a ∷ []) other = refl
no_begin f p (a ∷ b ∷ []) other = absurd (other refl)
no_begin f p (a ∷ b ∷ c ∷ more) other = refl

pub no_report : {X : Type 0} (f : X → List ℕ) (p : Settings) (args : List X) → length args ≢ 3 → None ≡ report_in p (map f args)
no_report f p [] other = refl
no_report f p (a ∷ []) other = refl
no_report f p (a ∷ b ∷ []) other = refl
no_report f p (a ∷ b ∷ c ∷ []) other = absurd (other refl)
no_report f p (a ∷ b ∷ c ∷ d ∷ more) other = refl

pub no_lose : {X : Type 0} (f : X → List ℕ) (p : Settings) (args : List X) → length args ≢ 2 → None ≡ lose_in p (map f args)
no_lose f p [] other = refl
no_lose f p (a ∷ []) other = refl
no_lose f p (a ∷ b ∷ []) other = absurd (other refl)
no_lose f p (a ∷ b ∷ c ∷ more) other = refl

pub no_expire : {X : Type 0} (f : X → List ℕ) (p : Settings) (args : List X) → length args ≢ 2 → None ≡ expire_in p (map f args)
no_expire f p [] other = refl
no_expire f p (a ∷ []) other = refl
no_expire f p (a ∷ b ∷ []) other = absurd (other refl)
no_expire f p (a ∷ b ∷ c ∷ more) other = refl
