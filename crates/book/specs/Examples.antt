-- The books of "Examples at the edges" and of "Easy slips", as bytes. x, y and z are the variables 0, 1 and 2 unless z is a constant.
use Rattle.std.specs.Prelude.{ℕ, List, [], ◌∷◌}

-- f/1, g/1: f(x) → g(x)
unfoldable pub fx_to_gx : List ℕ
fx_to_gx = 1 ∷ 1 ∷ 1 ∷ 1 ∷ 2 ∷ 3 ∷ 0 ∷ 4 ∷ 0 ∷ 3 ∷ 1 ∷ 4 ∷ 0 ∷ 5 ∷ []

-- f/3, g/1: f(y,g(x),x) → f(y,x,g(g(x))), 003's Example 1
unfoldable pub example1 : List ℕ
example1 =
    1 ∷ 3 ∷ 1 ∷ 1 ∷ 2 ∷ 3 ∷ 0 ∷ 4 ∷ 1 ∷ 3 ∷ 1 ∷ 4 ∷ 0 ∷ 4 ∷ 0 ∷ 3 ∷ 0 ∷ 4 ∷ 1 ∷ 4 ∷ 0 ∷ 3 ∷ 1 ∷ 3 ∷ 1 ∷ 4 ∷ 0 ∷ 5 ∷ []

-- f/1, g/1: f(x) → g(x), g(x) → f(x)
unfoldable pub undoing : List ℕ
undoing = 1 ∷ 1 ∷ 1 ∷ 1 ∷ 2 ∷ 3 ∷ 0 ∷ 4 ∷ 0 ∷ 3 ∷ 1 ∷ 4 ∷ 0 ∷ 2 ∷ 3 ∷ 1 ∷ 4 ∷ 0 ∷ 3 ∷ 0 ∷ 4 ∷ 0 ∷ 5 ∷ []

-- div/2, i/1, e/0: div(x,e) → i(x), i(div(x,y)) → div(y,x), div(div(x,y),z) → div(y,div(i(x),z)), 003's system
unfoldable pub div_ie : List ℕ
div_ie =
    1 ∷ 2 ∷ 1 ∷ 1 ∷ 1 ∷ 0
    ∷ 2 ∷ 3 ∷ 0 ∷ 4 ∷ 0 ∷ 3 ∷ 2 ∷ 3 ∷ 1 ∷ 4 ∷ 0
    ∷ 2 ∷ 3 ∷ 1 ∷ 3 ∷ 0 ∷ 4 ∷ 0 ∷ 4 ∷ 1 ∷ 3 ∷ 0 ∷ 4 ∷ 1 ∷ 4 ∷ 0
    ∷ 2 ∷ 3 ∷ 0 ∷ 3 ∷ 0 ∷ 4 ∷ 0 ∷ 4 ∷ 1 ∷ 4 ∷ 2 ∷ 3 ∷ 0 ∷ 4 ∷ 1 ∷ 3 ∷ 0 ∷ 3 ∷ 1 ∷ 4 ∷ 0 ∷ 4 ∷ 2
    ∷ 5 ∷ []

-- m/2: m(m(x,y),z) → m(x,m(y,z))
unfoldable pub associative : List ℕ
associative = 1 ∷ 2 ∷ 2 ∷ 3 ∷ 0 ∷ 3 ∷ 0 ∷ 4 ∷ 0 ∷ 4 ∷ 1 ∷ 4 ∷ 2 ∷ 3 ∷ 0 ∷ 4 ∷ 0 ∷ 3 ∷ 0 ∷ 4 ∷ 1 ∷ 4 ∷ 2 ∷ 5 ∷ []

-- m/2: m(x,m(y,z)) → m(m(x,y),z)
unfoldable pub reversed : List ℕ
reversed = 1 ∷ 2 ∷ 2 ∷ 3 ∷ 0 ∷ 4 ∷ 0 ∷ 3 ∷ 0 ∷ 4 ∷ 1 ∷ 4 ∷ 2 ∷ 3 ∷ 0 ∷ 3 ∷ 0 ∷ 4 ∷ 0 ∷ 4 ∷ 1 ∷ 4 ∷ 2 ∷ 5 ∷ []

-- f/1: f(x) → x
unfoldable pub fx_to_x : List ℕ
fx_to_x = 1 ∷ 1 ∷ 2 ∷ 3 ∷ 0 ∷ 4 ∷ 0 ∷ 4 ∷ 0 ∷ 5 ∷ []

-- f/1: f(x) → f(x)
unfoldable pub fx_to_fx : List ℕ
fx_to_fx = 1 ∷ 1 ∷ 2 ∷ 3 ∷ 0 ∷ 4 ∷ 0 ∷ 3 ∷ 0 ∷ 4 ∷ 0 ∷ 5 ∷ []

-- f/1: f(x) → y
unfoldable pub fx_to_y : List ℕ
fx_to_y = 1 ∷ 1 ∷ 2 ∷ 3 ∷ 0 ∷ 4 ∷ 0 ∷ 4 ∷ 1 ∷ 5 ∷ []

-- x → x
unfoldable pub x_to_x : List ℕ
x_to_x = 2 ∷ 4 ∷ 0 ∷ 4 ∷ 0 ∷ 5 ∷ []

-- The book 05, and the empty book.
unfoldable pub only_end : List ℕ
only_end = 5 ∷ []

unfoldable pub empty_book : List ℕ
empty_book = []

-- z/0, s/1, a/2: a(z,x) → x, a(s(x),y) → s(a(x,y))
unfoldable pub adding : List ℕ
adding =
    1 ∷ 0 ∷ 1 ∷ 1 ∷ 1 ∷ 2
    ∷ 2 ∷ 3 ∷ 2 ∷ 3 ∷ 0 ∷ 4 ∷ 0 ∷ 4 ∷ 0
    ∷ 2 ∷ 3 ∷ 2 ∷ 3 ∷ 1 ∷ 4 ∷ 0 ∷ 4 ∷ 1 ∷ 3 ∷ 1 ∷ 3 ∷ 2 ∷ 4 ∷ 0 ∷ 4 ∷ 1
    ∷ 5 ∷ []

-- f/2, g/1: f(g(x),y) → f(x,f(g(x),y)), which decreases only if the later arguments are forgotten
unfoldable pub forgetful : List ℕ
forgetful = 1 ∷ 2 ∷ 1 ∷ 1 ∷ 2 ∷ 3 ∷ 0 ∷ 3 ∷ 1 ∷ 4 ∷ 0 ∷ 4 ∷ 1 ∷ 3 ∷ 0 ∷ 4 ∷ 0 ∷ 3 ∷ 0 ∷ 3 ∷ 1 ∷ 4 ∷ 0 ∷ 4 ∷ 1 ∷ 5 ∷ []
