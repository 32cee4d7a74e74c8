-- The made job: a graph of the shape of a tiled Cholesky factorization. Its tiles count the tasks that changed them,
-- instead of holding numbers of a matrix. Source: the tiled factorization of DAGuE 2012.
-- Carried by: `make`.
-- Tested by: `demo.txt`.
use Rattle.std.specs.Prelude.{ℕ, List, [], ◌∷◌, ◌++◌, flat_map, codes}
use Rattle.std.specs.Fmt.{decimal}

-- A text of these lines, each ended by LF.
abbrev pub text_of : List (List ℕ) → List ℕ
text_of lines = flat_map (λ line. line ++ 10 ∷ []) lines

-- The names that the data give: the collection, and how many rows of tiles it has.
abbrev pub globals : List (List ℕ)
globals =
    codes "D"
    ∷ codes "NT"
    ∷ []
    ∷ []

-- potrf(k) has the tile on the diagonal in column k.
abbrev pub potrf : List (List ℕ)
potrf =
    codes "potrf(k)"
    ∷ codes "k = 0 .. NT-1"
    ∷ codes ": D(k, k)"
    ∷ codes "RW T <- (k == 0) ? D(k, k) : T herk(k-1, k)"
    ∷ codes "     -> T trsm(k, k+1 .. NT-1)"
    ∷ codes "     -> D(k, k)"
    ∷ codes "; NT - k"
    ∷ codes "BODY"
    ∷ codes "T[0] = T[0] + 1; T[1] = T[1] + k; T[2] = 1;"
    ∷ codes "END"
    ∷ []
    ∷ []

-- trsm(k, m) has the tile in row m of column k, below the diagonal.
abbrev pub trsm : List (List ℕ)
trsm =
    codes "trsm(k, m)"
    ∷ codes "k = 0 .. NT-2"
    ∷ codes "m = k+1 .. NT-1"
    ∷ codes ": D(m, k)"
    ∷ codes "READ T <- T potrf(k)"
    ∷ codes "RW C <- (k == 0) ? D(m, k) : C gemm(k-1, m, k)"
    ∷ codes "     -> A herk(k, m)"
    ∷ codes "     -> A gemm(k, m, k+1 .. m-1)"
    ∷ codes "     -> B gemm(k, m+1 .. NT-1, m)"
    ∷ codes "     -> D(m, k)"
    ∷ codes "BODY"
    ∷ codes "if (T[2] != 1) { trap order; }"
    ∷ codes "C[0] = C[0] + 1; C[1] = C[1] + k; C[2] = 1;"
    ∷ codes "END"
    ∷ []
    ∷ []

-- herk(k, m) changes the tile on the diagonal in column m by the tile in row m of column k.
abbrev pub herk : List (List ℕ)
herk =
    codes "herk(k, m)"
    ∷ codes "k = 0 .. NT-2"
    ∷ codes "m = k+1 .. NT-1"
    ∷ codes ": D(m, m)"
    ∷ codes "READ A <- C trsm(k, m)"
    ∷ codes "RW T <- (k == 0) ? D(m, m) : T herk(k-1, m)"
    ∷ codes "     -> (m == k+1) ? T potrf(m) : T herk(k+1, m)"
    ∷ codes "BODY"
    ∷ codes "if (A[2] != 1) { trap order; }"
    ∷ codes "T[0] = T[0] + 1; T[1] = T[1] + k;"
    ∷ codes "END"
    ∷ []
    ∷ []

-- gemm(k, m, n) changes the tile in row m of column n by the tiles in rows m and n of column k.
abbrev pub gemm : List (List ℕ)
gemm =
    codes "gemm(k, m, n)"
    ∷ codes "k = 0 .. NT-3"
    ∷ codes "m = k+2 .. NT-1"
    ∷ codes "n = k+1 .. m-1"
    ∷ codes ": D(m, n)"
    ∷ codes "READ A <- C trsm(k, m)"
    ∷ codes "READ B <- C trsm(k, n)"
    ∷ codes "RW C <- (k == 0) ? D(m, n) : C gemm(k-1, m, n)"
    ∷ codes "     -> (n == k+1) ? C trsm(n, m) : C gemm(k+1, m, n)"
    ∷ codes "BODY"
    ∷ codes "if (A[2] + B[2] != 2) { trap order; }"
    ∷ codes "C[0] = C[0] + 1; C[1] = C[1] + k;"
    ∷ codes "END"
    ∷ []

-- The JDF text. It is the same for every number of rows, which the data give.
abbrev pub jdf_text : List ℕ
jdf_text = text_of (globals ++ potrf ++ trsm ++ herk ++ gemm)

-- The data of n rows of tiles: tiles of three elements, NT = n, and D of n by n tiles, all zero.
abbrev pub data_text : ℕ → List ℕ
data_text n =
    text_of
    (codes "elems,3" ∷ (codes "int,NT," ++ decimal n) ∷ (codes "coll,D," ++ decimal n ++ codes "," ++ decimal n)
    ∷ [])
