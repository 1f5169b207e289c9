-- What a message asks for, where its kind and the phase are known.
use Rattle.std.proofs.Common.{◌≡◌, ◌≢◌, [], ◌∷◌, refl, ap, subst, ◌∙◌}
use Rattle.gear_packets.specs.Response.{AssignedJob, Message, noop, no_job, assign, server_error, other}
use Rattle.gear_packets.specs.Text.{assignments_in}
use Rattle.job_runner.specs.declared.end.EndCause.{EndCause}
use Rattle.job_runner.specs.declared.end.EndCause.TheVariants.{BadPacket, WriteFault}
use Rattle.job_runner.specs.declared.order.Phase.{Phase}
use Rattle.job_runner.specs.declared.order.Phase.TheVariants.{Waiting, Asleep, Idle}
use Rattle.job_runner.specs.Acting.{Asked, asked_by, skip, sleep, follow, serve, end}

pub asked_to_sleep : (m : Message) (phase : Phase) → m ≡ no_job → phase ≡ Waiting → asked_by m phase ≡ sleep
asked_to_sleep m phase e p = ap (λ (x : Message). asked_by x phase) e ∙ ap (asked_by no_job) p

pub asked_to_follow : (m : Message) (phase : Phase) → m ≡ noop → phase ≡ Asleep → asked_by m phase ≡ follow
asked_to_follow m phase e p = ap (λ (x : Message). asked_by x phase) e ∙ ap (asked_by noop) p

pub asked_to_serve : (m : Message) (job : AssignedJob) (phase : Phase) → m ≡ assign job → phase ≡ Waiting → asked_by m phase ≡ serve job
asked_to_serve m job phase e p = ap (λ (x : Message). asked_by x phase) e ∙ ap (asked_by (assign job)) p

noop_awake : (phase : Phase) → phase ≢ Asleep → asked_by noop phase ≡ skip
noop_awake Waiting unlike = refl
noop_awake Asleep unlike = absurd (unlike refl)
noop_awake Idle unlike = refl

pub asked_nothing_awake : (m : Message) (phase : Phase) → m ≡ noop → phase ≢ Asleep → asked_by m phase ≡ skip
asked_nothing_awake m phase e unlike = ap (λ (x : Message). asked_by x phase) e ∙ noop_awake phase unlike

none_unless_waiting : (phase : Phase) → phase ≢ Waiting → asked_by no_job phase ≡ skip
none_unless_waiting Waiting unlike = absurd (unlike refl)
none_unless_waiting Asleep unlike = refl
none_unless_waiting Idle unlike = refl

pub asked_nothing_still : (m : Message) (phase : Phase) → m ≡ no_job → phase ≢ Waiting → asked_by m phase ≡ skip
asked_nothing_still m phase e unlike = ap (λ (x : Message). asked_by x phase) e ∙ none_unless_waiting phase unlike

not_asked : (job : AssignedJob) (phase : Phase) → phase ≢ Waiting → asked_by (assign job) phase ≡ end BadPacket
not_asked job Waiting unlike = absurd (unlike refl)
not_asked job Asleep unlike = refl
not_asked job Idle unlike = refl

-- a job that nobody asked for
pub asked_to_end : (m : Message) (job : AssignedJob) (phase : Phase) → m ≡ assign job → phase ≢ Waiting → asked_by m phase ≡ end BadPacket
asked_to_end m job phase e unlike = ap (λ (x : Message). asked_by x phase) e ∙ not_asked job phase unlike

-- what a message asks for, if it is an end, is not that a write failed
NoWriteFault : Asked → Type 0
NoWriteFault skip = Unit {0}
NoWriteFault sleep = Unit {0}
NoWriteFault follow = Unit {0}
NoWriteFault (serve job) = Unit {0}
NoWriteFault (end reason) = reason ≢ WriteFault

asks_no_fault : (m : Message) (phase : Phase) → NoWriteFault (asked_by m phase)
unfolding NoWriteFault
asks_no_fault noop Waiting = tt
asks_no_fault noop Asleep = tt
asks_no_fault noop Idle = tt
asks_no_fault no_job Waiting = tt
asks_no_fault no_job Asleep = tt
asks_no_fault no_job Idle = tt
asks_no_fault (assign job) Waiting = tt
asks_no_fault (assign job) Asleep = λ e. cc
asks_no_fault (assign job) Idle = λ e. cc
asks_no_fault (server_error code text) phase = λ e. cc
asks_no_fault (other kind) phase = tt

pub asked_end : (m : Message) (phase : Phase) (reason : EndCause) → asked_by m phase ≡ end reason → reason ≢ WriteFault
unfolding NoWriteFault
asked_end m phase reason e = subst NoWriteFault e (asks_no_fault m phase)

-- what a message is, by what it asks for
Means : Asked → Message → Phase → Type 0
Means skip m phase = assignments_in (m ∷ []) ≡ []
Means sleep m phase = (assignments_in (m ∷ []) ≡ []) × (phase ≡ Waiting)
Means follow m phase = assignments_in (m ∷ []) ≡ []
Means (serve job) m phase = (m ≡ assign job) × (phase ≡ Waiting)
Means (end reason) m phase = Unit {0}

means : (m : Message) (phase : Phase) → Means (asked_by m phase) m phase
unfolding Means
means noop Waiting = refl
means noop Asleep = refl
means noop Idle = refl
means no_job Waiting = (refl, refl)
means no_job Asleep = refl
means no_job Idle = refl
means (assign job) Waiting = (refl, refl)
means (assign job) Asleep = tt
means (assign job) Idle = tt
means (server_error code text) phase = tt
means (other kind) phase = refl

-- a session sleeps where it waited
pub asked_to_wait : (m : Message) (phase : Phase) → asked_by m phase ≡ sleep → phase ≡ Waiting
unfolding Means
asked_to_wait m phase e = (subst (λ (a : Asked). Means a m phase) e (means m phase)).1

-- and serves where it waited
pub asked_job : (m : Message) (phase : Phase) (job : AssignedJob) → asked_by m phase ≡ serve job → (m ≡ assign job) × (phase ≡ Waiting)
unfolding Means
asked_job m phase job e = subst (λ (a : Asked). Means a m phase) e (means m phase)

-- no job is in a message that asks for nothing, to sleep, or to follow
pub unassigned_skip : (m : Message) (phase : Phase) → asked_by m phase ≡ skip → assignments_in (m ∷ []) ≡ []
unfolding Means
unassigned_skip m phase e = subst (λ (a : Asked). Means a m phase) e (means m phase)

pub unassigned_sleep : (m : Message) (phase : Phase) → asked_by m phase ≡ sleep → assignments_in (m ∷ []) ≡ []
unfolding Means
unassigned_sleep m phase e = (subst (λ (a : Asked). Means a m phase) e (means m phase)).0

pub unassigned_follow : (m : Message) (phase : Phase) → asked_by m phase ≡ follow → assignments_in (m ∷ []) ≡ []
unfolding Means
unassigned_follow m phase e = subst (λ (a : Asked). Means a m phase) e (means m phase)
